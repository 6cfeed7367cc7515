-- The next place with a larger magnitude, as the contract of `above` tells it; and heights and peaks of some slices.
pub mod Above
mod Vectors
