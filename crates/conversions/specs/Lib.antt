-- From one form of a record to the other: what is answered and left, and, inner, what both forms have.
pub mod Converting
pub mod Front
