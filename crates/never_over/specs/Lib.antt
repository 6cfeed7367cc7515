-- How far the steps of an index can carry a value: in closed form up to four odd primes, and as the checker computes it
-- for five. That OVER is never met at the largest working limit, nor under any from `Promised` on, is in proofs/.
pub mod Promised
pub mod Scales
pub mod Stops
pub mod Sizes
pub mod LeftOut
pub mod FourPrimes
pub mod Weights
pub mod Pairs
pub mod Listed
