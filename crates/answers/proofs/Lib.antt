-- What is proved of the answers as a whole; `Told` has what the requests' proofs share.
pub mod Told
pub mod OneOutcome
pub mod WorkingLimit
