-- Digits in a line of bytes (docs/RULES.md, 'The listing').
pub mod Digits
