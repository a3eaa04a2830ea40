pub mod Limits
pub mod Identical
pub mod Called
