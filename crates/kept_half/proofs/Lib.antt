-- Laws that the functions' proofs share, and `polynomial`'s.
pub mod Starting
pub mod Turning
pub mod Running
pub mod Walked
