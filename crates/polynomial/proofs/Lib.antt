-- Laws that the functions' proofs share; what is proved of the requests as a whole.
pub mod Stepping
pub mod Answering
pub mod OneOutcome
pub mod Between
