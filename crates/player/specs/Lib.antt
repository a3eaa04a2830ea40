-- Notes still sounding, written from document 02, Q-1: the table, what a list of events leaves in it, the keys that sound and the list that silences them;
-- and what the functions and the exported entries answer.
pub mod Table
pub mod Notes
pub mod Widths
pub mod Sounding
pub mod Answers
pub mod Entries
