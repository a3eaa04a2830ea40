-- What the values and the answers of this crate say, in the terms of the definitions.
pub mod Cursor
pub mod List
pub mod Read
