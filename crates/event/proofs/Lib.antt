pub mod Identical
pub mod IdenticalRunning
pub mod Tried
