-- Laws that the functions' proofs share; `Laws` is what callers go by.
pub mod Whole
pub mod Laws
pub mod Rows
pub mod OneOutcome
