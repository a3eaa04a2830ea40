-- What the entries answer, and what they leave in what they are lent.
pub mod Entry
pub mod Fields
pub mod Smpte
