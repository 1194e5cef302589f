-- What the contracts of the C interface cite.
pub mod Primitives
pub mod Arguments
pub mod Answers
pub mod Session
