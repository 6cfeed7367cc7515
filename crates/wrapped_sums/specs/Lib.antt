-- Numbers modulo 2^64, and their laws, which callers use.
pub mod Wrapped
pub mod Residues
pub mod Alike
