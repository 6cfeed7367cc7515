-- What is printed for any input (docs/RULES.md, 'The listing'), over bytes; and what a streaming reader of it does with
-- its pieces.
pub mod Reply
pub mod Listing
pub mod Example
pub mod Stream
pub mod Ran
