-- What an inner contract cites; and vectors: the definitions of the second engine, run.
pub mod Bounds
mod Vectors
