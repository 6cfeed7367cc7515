-- What is shown of a shelf, the reader, and a shelf cut into its records; `Vectors` computes what one shows.
pub mod Browse
pub mod Reading
pub mod Cut
pub mod Vectors
