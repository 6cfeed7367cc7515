-- The halves of some coefficients: laws of lists, over the sign; and that every F and I has halves that match.
pub mod Halves
pub mod Even
