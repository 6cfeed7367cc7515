-- A product by digits.
pub mod Digits
