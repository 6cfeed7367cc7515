-- Laws that the functions' proofs share; `Dividing` has what callers use.
mod Adding
mod Spreading
pub mod Dividing
