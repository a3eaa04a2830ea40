-- What the values and the answers of this crate say, in the terms of the definitions.
pub mod Raw
pub mod Size
pub mod Wrote
pub mod ListAnswers
pub mod Store
pub mod Direct
