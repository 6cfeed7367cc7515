-- A coefficient of a product: a number's parts, the coefficient as a sum, how large it is, and how it is told.
pub mod Parts
pub mod Told
pub mod Dots
pub mod Weight
pub mod Terms
pub mod Light
