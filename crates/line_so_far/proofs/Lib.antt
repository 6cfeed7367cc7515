-- That each answer is the only one.
pub mod OneOutcome
