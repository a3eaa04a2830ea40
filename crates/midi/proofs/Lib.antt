pub mod BendFloats
pub mod IdenticalBends
pub mod Identical
