-- What is open between two runs over a piece.
pub mod Parts
