-- Laws that the functions' proofs share, and `polynomial`'s.
pub mod Laying
