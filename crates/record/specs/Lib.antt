-- The header of a record, and numbers in its bytes.
pub mod Header
pub mod Held
