pub mod Held
pub mod Reading
pub mod Filling
pub mod Identical
