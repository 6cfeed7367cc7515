-- What the functions' proofs share, and the writer's and the reader's cite: the passes over lists, the header.
pub mod Passes
pub mod Headers
pub mod HeaderTrips
pub mod Fronts
pub mod Refused
pub mod OneOutcome
