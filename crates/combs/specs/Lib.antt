-- What the contracts of `combs` cite beside `definitions` and `entry_steps`.
pub mod Combs
