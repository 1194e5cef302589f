-- The laws of MIC tokens.
pub mod Exactly
