-- What more than one proof of `md4` cites.
mod Places
