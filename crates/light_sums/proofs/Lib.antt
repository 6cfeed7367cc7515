-- Laws that the functions' proofs share, and `digit_sums`'s and `exact_products`'s.
pub mod Joins
mod Lights
