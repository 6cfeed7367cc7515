-- Laws that the functions' proofs share, and whoever calls them.
pub mod Negation
pub mod Shaping
pub mod Stretches
pub mod Spreading
pub mod OneOutcome
