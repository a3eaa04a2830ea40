pub mod Identical
