-- One outcome for each input.
pub mod OneOutcome
