-- What the answers of this crate say, and what of a row they speak of.
pub mod Same
pub mod OfRows
