-- What the contract of `tally` cites.
pub mod Tally
