-- How a record holds numbers, and what a coefficient says of its width.
pub mod Numbers
pub mod Classes
