-- What the passes look for.
pub mod Any
