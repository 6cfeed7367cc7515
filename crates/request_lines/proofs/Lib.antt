-- What the proofs of `request_lines` share, and what those above it cite; and that each answer is the only one.
pub mod Reading
pub mod OneOutcome
