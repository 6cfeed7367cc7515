-- What the function's proof cites.
pub mod FirstHalves
