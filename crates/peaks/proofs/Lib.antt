-- What the functions' proofs share, the sign of bits put together; and one outcome.
pub mod Blocks
pub mod Gathers
pub mod OneOutcome
