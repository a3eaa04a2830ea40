pub mod Identical
pub mod NumberReads
pub mod NumberWrites
pub mod IdenticalPayloads
pub mod PayloadReads
pub mod PayloadCopy
pub mod Inside
