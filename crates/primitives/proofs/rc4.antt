-- What more than one proof of `rc4` cites.
mod Loops
