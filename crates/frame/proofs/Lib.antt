-- The laws by which the functions of this crate are proved. Those that a crate above may cite are in `Laws`.
pub mod Laws
mod Lengths
mod Contents
mod Frames
mod Fronts
mod Captures
mod Leads
mod Regions
