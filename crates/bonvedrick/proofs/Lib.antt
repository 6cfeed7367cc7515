-- One outcome for each input, and that a door's contract is its request's.
pub mod OneOutcome
pub mod Doors
mod Limits
