-- What the lower half and the first copy are, as the contracts tell it.
pub mod Growth
