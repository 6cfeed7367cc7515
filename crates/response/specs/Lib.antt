-- The response at a point: what it is, its laws for whoever makes it, and vectors.
pub mod Response
pub mod Laws
pub mod Vectors
