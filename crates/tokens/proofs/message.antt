-- The laws of encrypted messages.
mod Exactly
mod Regions
mod Sealing
