-- What the functions' proofs share: the answers by their codes, and the round trips.
pub mod Told
pub mod Reading
pub mod Done
pub mod Writing
pub mod WriteRead
pub mod ReadWrite
pub mod RoundTrips
pub mod OneOutcome
