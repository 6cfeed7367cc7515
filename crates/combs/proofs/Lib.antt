-- Laws that the functions' proofs share.
mod CombedTo
mod TestedTo
