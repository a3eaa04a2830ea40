-- Laws on the raw form: what the doors answer, how long it is, and how it is put.
pub mod Payloads
pub mod Channels
pub mod Forms
pub mod Doors
pub mod Storing
pub mod Lengths
pub mod Steps
pub mod RowForms
pub mod EventSizes
pub mod Most
pub mod Measuring
pub mod Writing
pub mod Sizes
pub mod Judging
pub mod Identical
pub mod Straight
