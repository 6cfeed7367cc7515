-- Whole numbers as floats: what holds one, and that sums and products of such are exact as far as 2^53.
pub mod Holds
