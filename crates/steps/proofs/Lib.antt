-- That the contract leaves one outcome.
pub mod OneOutcome
