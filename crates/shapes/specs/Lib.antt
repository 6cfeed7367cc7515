-- What the shaping passes leave, entry by entry.
pub mod Shapes
