-- The listing's first line, and the line that is being read (docs/RULES.md, 'The listing').
pub mod Heading
pub mod OpenLine
