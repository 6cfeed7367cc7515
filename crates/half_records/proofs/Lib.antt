-- That a delivered polynomial is taken, and one outcome for each input.
pub mod Delivered
pub mod OneOutcome
