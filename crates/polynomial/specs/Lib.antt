-- The making of a polynomial, as the inner functions' contracts tell it.
pub mod Making
