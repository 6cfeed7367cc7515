-- The shelf record in its form Whole.
pub mod Format
