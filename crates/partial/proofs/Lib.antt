-- Laws that the functions' proofs share, and one outcome for each input.
mod Stopping
pub mod OneOutcome
