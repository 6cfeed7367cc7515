-- Laws that the functions' proofs share.
mod Odds
mod Sifting
