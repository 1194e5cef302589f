-- The laws by which the functions of this crate are proved, and what holds of every session. Those that a crate above may cite are in
-- `Laws`.
pub mod Laws
mod Cases
mod Marks
mod Members
mod Follows
mod Counts
