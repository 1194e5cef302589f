-- The laws of framed Wrap tokens.
mod Exactly
mod Writing
