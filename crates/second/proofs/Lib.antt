-- Laws that the functions' proofs share; what is proved of the request as a whole.
mod Bounded
pub mod Asking
pub mod Answering
pub mod OneOutcome
pub mod Agreeing
