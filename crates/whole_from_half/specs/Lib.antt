-- What the laying out starts from, as the contracts tell it.
pub mod Ready
