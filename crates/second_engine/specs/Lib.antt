-- What the contracts of `second_engine` cite.
pub mod Kinds
pub mod Halves
