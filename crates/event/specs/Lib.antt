-- Events and what their reader answers, in the terms of the definitions.
pub mod Begun
pub mod Event
pub mod Lent
