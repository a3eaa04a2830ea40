-- Rows of cells: an event as a row, the event of a row, lists of rows, and what reading into rows answers.
pub mod Rows
pub mod RowEvent
pub mod RowLists
pub mod RowAnswer
pub mod Sheet
pub mod Read
pub mod Short
pub mod One
pub mod Kept
