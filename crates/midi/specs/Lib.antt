-- Channel messages and bends, in the terms of the definitions.
pub mod Bend
pub mod Midi
