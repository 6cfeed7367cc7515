-- A product that is made in place.
pub mod Products
mod Vectors
