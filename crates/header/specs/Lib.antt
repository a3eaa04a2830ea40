-- The types of this crate and what its functions answer, in the terms of the definitions.
pub mod Fps
pub mod Format
pub mod Timing
pub mod Smpte
