-- What the functions' proofs share; and what the reader gives is the shelf cut into its records.
pub mod Showing
pub mod Cuts
pub mod OneOutcome
