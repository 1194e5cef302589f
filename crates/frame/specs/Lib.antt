-- What the contracts of `frame` cite: the length of DER, the outer frame of RFC 2743, frames one after the other, and framed
-- MIC and Wrap tokens.
pub mod Length
pub mod Framing
pub mod Capture
pub mod Mic
pub mod Wrap
pub mod Rows
