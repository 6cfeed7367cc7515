-- What the proofs of several functions cite, and the theorems.
pub mod Searches
pub mod Turns
pub mod Codes
pub mod NeverShort
pub mod Rescues
pub mod OneOutcome
