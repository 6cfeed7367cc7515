-- Laws that the functions' proofs share, here and in the crates above.
pub mod Split
pub mod FourEntries
pub mod Values
pub mod Tested
