-- What the parts of `list` hand to each other (docs/RULES.md, 'The listing').
pub mod Handed
pub mod Went
