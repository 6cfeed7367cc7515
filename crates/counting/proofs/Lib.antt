-- Laws for the proofs of the census, and that it leaves one outcome.
pub mod Measuring
pub mod Indices
pub mod Found
pub mod Turns
pub mod Codes
pub mod OneOutcome
