-- The stored record in both its forms: its bytes, and what the writer and the reader answer and leave. `Vectors`
-- computes some records.
pub mod Format
pub mod Vectors
