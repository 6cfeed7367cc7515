-- The ring laws of ℤ that the kit lacks, and one solver for ring equations.
pub mod Ring
pub mod Solver
pub mod Whole
