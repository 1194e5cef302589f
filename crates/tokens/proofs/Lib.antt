-- The laws by which the functions of this crate are proved. A crate above may cite those of `Laws`, and of chains of tests (`Steps`)
-- and of octets compared (`SameOctets`), if its own are of that form.
pub mod Laws
pub mod SameOctets
pub mod Steps
mod Placing
mod Salts
mod Lent
mod SignedText
mod Sessions
mod Fronts
mod Lengths
mod MessageTypes
mod Unicode
