-- What the contracts of `chain_groups` cite beside those of `chains`.
pub mod Widths
