-- That F(p q), for two odd primes p and q, has no magnitude above 1 (`Flat`), with two vectors (`Vectors`).
pub mod Sums
pub mod TwoPrimes
pub mod Flat
pub mod Vectors
