-- What a meta message and the answers of this crate say, in the terms of the definitions.
pub mod Meta
pub mod Narrow
pub mod Named
