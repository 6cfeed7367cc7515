-- What several proofs of `text` share, and what those above it cite.
pub mod Putting
pub mod Decimal
pub mod Sign
