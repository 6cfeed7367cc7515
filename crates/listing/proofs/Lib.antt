-- What several proofs of `listing` share.
mod Replying
pub mod Streaming
pub mod Kept
pub mod Whole
pub mod OneOutcome
