-- Laws that the functions' proofs share.
mod Recursion
mod OfParts
