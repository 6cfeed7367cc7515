-- The making of the kept half, as the inner functions' contracts tell it.
pub mod Halves
