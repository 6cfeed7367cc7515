-- What each request answers and what it leaves in the lent buffer, refusals included: the table of docs/RULES.md, 'The
-- codes', and the paragraphs around it.
pub mod Refusals
pub mod Polynomial
pub mod Partial
pub mod Cascade
pub mod Second
