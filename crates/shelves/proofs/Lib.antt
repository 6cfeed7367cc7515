-- What the functions' proofs share; and what the walk and the lookup find.
pub mod Walking
pub mod Runs
pub mod Firsts
pub mod HandedBack
pub mod OneOutcome
