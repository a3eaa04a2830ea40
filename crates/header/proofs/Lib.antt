pub mod Rates
pub mod Identical
pub mod IdenticalTimes
