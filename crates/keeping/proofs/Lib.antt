-- What the proofs of several functions cite.
pub mod Standing
pub mod Comparing
pub mod Halving
pub mod Trying
pub mod Searching
