pub mod RefusalNumbers
pub mod IdenticalNumbers
pub mod Said
