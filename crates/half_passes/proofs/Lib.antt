-- What the proofs of several functions cite.
pub mod Images
pub mod Places
