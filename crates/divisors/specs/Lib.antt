-- The walk over r's divisors, and the search for the next one.
pub mod Masks
pub mod Least
pub mod Walks
