-- What the functions' proofs share, and those of `record` and `shelf` cite: signs, widths, numbers and their bytes.
pub mod Signs
pub mod Widths
pub mod Least
pub mod Lowest
pub mod Classes
pub mod Digits
pub mod OneOutcome
