-- `Laws` has the laws that a crate above may cite, and `Room` those of an array with zeros after a list, which the models of the crates
-- above cite. The other modules serve the proofs of this crate alone.
pub mod Laws
pub mod Room
mod Absorb
mod Below
mod Choose
mod Copy
mod Cycle
mod HmacParts
mod Keystream
mod Padding
mod Parts
mod Rounds
mod Shifts
mod Words
mod Xor
