-- Laws that the functions' proofs share, here, in `chain_groups` and in `accumulates`.
pub mod Group
