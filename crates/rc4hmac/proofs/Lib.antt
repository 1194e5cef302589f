-- The laws by which the functions of this crate are proved, and what holds of a session through the C interface.
pub mod Session
