-- The laws of framed MIC tokens.
mod Exactly
