-- What the program `census` prints for any input (docs/RULES.md, 'The census of heights'), over bytes.
pub mod Asked
pub mod Printed
pub mod Example
