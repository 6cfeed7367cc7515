-- The outcome of a step, as the contracts tell it.
pub mod Outcome
