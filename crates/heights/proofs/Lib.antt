-- What the functions' proofs share, and other crates cite: signs, the look over a slice, one outcome.
pub mod Signs
pub mod Looks
pub mod OneOutcome
