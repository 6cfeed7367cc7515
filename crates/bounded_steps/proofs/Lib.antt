-- Laws that the functions' proofs share, and `outlined_steps`'s.
pub mod Outcomes
mod Tested
pub mod Untested
