-- Laws that the functions' proofs share, and `kept_half`'s.
pub mod MaskLaws
pub mod Searching
pub mod Walking
