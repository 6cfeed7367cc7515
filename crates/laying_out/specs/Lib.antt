-- What laying out comes to.
pub mod Laid
