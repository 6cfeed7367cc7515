-- Laws that the functions' proofs share, and `outlined_steps`'s; and one outcome.
pub mod Repeats
mod Summing
pub mod OneOutcome
