-- A bank of programs, written from document 02, Q-3: the block that the bank of given tracks is; apart from that, what a block says when it is read as
-- a bank; the bank that is written of ranges of bytes; and what the functions and the exported entries answer.
pub mod Bank
pub mod Read
pub mod Write
pub mod Answers
pub mod Entries
