-- What the sieve for the odd primes of n holds on the way.
pub mod Sieving
