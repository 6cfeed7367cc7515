-- Laws that the functions' proofs share, and `kept_half`'s.
pub mod Outlining
