-- The rescue of a damaged shelf.
pub mod Rescue
pub mod Passes
pub mod Pieces
pub mod Vectors
