-- What the functions' proofs share, and the round trips.
pub mod Converting
pub mod RoundTrips
pub mod OneOutcome
