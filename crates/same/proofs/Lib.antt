pub mod SameTests
pub mod Loads
pub mod Identical
pub mod RowKinds
pub mod SameLists
pub mod RowsLeft
pub mod Asked
