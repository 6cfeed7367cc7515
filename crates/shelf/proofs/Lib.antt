-- A record by itself, and one outcome for each input.
pub mod Alone
pub mod OneOutcome
