-- What the contracts of `roundtrip` cite.
pub mod Returns
