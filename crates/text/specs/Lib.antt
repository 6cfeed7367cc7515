-- Numbers as text (docs/RULES.md, 'The listing'): how they are written, and what it means that a text stands in a
-- buffer.
pub mod Text
pub mod Puts
