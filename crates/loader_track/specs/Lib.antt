-- What the entries for events and lists answer, and what they leave in what they are lent.
pub mod Events
pub mod Lists
pub mod Same
