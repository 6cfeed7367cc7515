-- The walk over a shelf, and the lookup in two; the words of the theorems on them; `Vectors` computes some lookups.
pub mod Walk
pub mod Lookup
pub mod First
pub mod Vectors
