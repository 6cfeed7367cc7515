-- Laws that the functions' proofs share.
mod Ending
