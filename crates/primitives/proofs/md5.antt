-- What more than one proof of `md5` cites.
mod Places
