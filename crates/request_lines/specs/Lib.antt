-- What a line of the listing asks for (docs/RULES.md, 'The listing'), over bytes.
pub mod Request
