-- The laws by which the functions of this crate are proved. Those that a crate above may cite are in `Laws`.
pub mod Laws
mod Ranges
mod DigitValues
mod Digits
mod Numerals
mod Characters
mod Equal
mod Texts
mod Tables
