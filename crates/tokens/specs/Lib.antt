-- What the contracts of `tokens` cite: keys, usages, the keyed checksum, encrypted messages, and MIC and Wrap tokens as RFC 4757
-- defines them, the limits and the answers.
pub mod Answer
pub mod Limits
pub mod Octets
pub mod Key
pub mod Strength
pub mod Usage
pub mod Checksum
pub mod Message
pub mod Session
pub mod Token
pub mod Mic
pub mod Wrap
pub mod Rows
