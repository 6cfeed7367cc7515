-- What a reader has to believe: the rules of docs/RULES.md as definitions, in its order. Nothing is proved here.
pub mod Integers
pub mod Series
pub mod Numbers
pub mod Polynomials
pub mod Codes
pub mod Steps
pub mod KeptHalf
pub mod Answer
pub mod Requests
pub mod Cascades
pub mod Second
pub mod Halves
