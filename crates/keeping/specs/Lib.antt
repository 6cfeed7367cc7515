-- Which record is kept, and the search for the next one.
pub mod Keepable
pub mod Trying
