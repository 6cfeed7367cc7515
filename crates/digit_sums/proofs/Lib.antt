-- Laws that the functions' proofs share.
mod DigitSums
mod Places
