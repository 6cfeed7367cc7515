-- What the contracts of `wrapped_steps` cite beside `wrapped_combs`.
pub mod Upward
pub mod Rows
