-- What the contracts of `factor_steps` cite beside `definitions`, and the mathematics of it.
pub mod Factors
pub mod Multiplied
