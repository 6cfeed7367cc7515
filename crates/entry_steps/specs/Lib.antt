-- What the contracts of `entry_steps`, and of the crates of passes above it, cite beside `definitions`.
pub mod Sorts
pub mod Passes
pub mod Asked
