-- Laws that the functions' proofs share.
mod Filling
mod Joined
mod Fewer
