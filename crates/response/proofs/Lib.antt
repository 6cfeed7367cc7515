-- The response at a point: that its contract leaves one outcome.
pub mod OneOutcome
