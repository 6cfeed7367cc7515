-- What the functions' proofs share, and those of `request_lines`; and that each answer is the only one.
pub mod Digits
pub mod OneOutcome
