-- What the answers of this crate say, in the terms of the definitions.
pub mod Varlen
pub mod Payload
