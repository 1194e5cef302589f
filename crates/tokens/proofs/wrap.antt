-- The laws of Wrap tokens.
pub mod Exactly
mod Opening
mod Regions
