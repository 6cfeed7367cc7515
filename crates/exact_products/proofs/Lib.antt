-- Laws of a product in the making; and one outcome.
mod Making
pub mod OneOutcome
pub mod Lost
