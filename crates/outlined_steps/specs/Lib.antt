-- Entries told by the first few of them, and what a step on such entries comes to.
pub mod Outlines
pub mod Outcome
