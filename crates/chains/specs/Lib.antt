-- What the contracts of `chains`, and of `chain_groups` and `accumulates` above it, cite beside `definitions` and
-- `entry_steps`.
pub mod Chains
pub mod Tested
