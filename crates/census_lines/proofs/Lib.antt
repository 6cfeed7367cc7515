-- What several proofs of `census_lines` share; that the first 20 bytes say all; and that each answer is the only one.
mod Reading
mod Rows
mod Told
pub mod FirstLine
pub mod OneOutcome
