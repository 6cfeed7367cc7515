-- The laws of the numbers that docs/RULES.md speaks of: divisors, primes, phi, and how n is taken apart. All is proved
-- from the definitions of crate `definitions`; there is no code here.
pub mod Tests
pub mod Euclid
pub mod Primes
pub mod Bezout
pub mod Folds
pub mod Divisors
pub mod Counts
pub mod Phi
pub mod Products
pub mod Apart
pub mod PhiApart
pub mod PhiPrime
pub mod HowMany
pub mod AtMostFive
pub mod Lists
pub mod Below
pub mod PrimeLists
pub mod PrimeRows
pub mod Fives
