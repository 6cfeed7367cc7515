-- The census of heights (docs/RULES.md, 'The census of heights'), and what is shown of it.
pub mod Census
pub mod Passes
pub mod Rows
pub mod Delivered
pub mod Vectors
