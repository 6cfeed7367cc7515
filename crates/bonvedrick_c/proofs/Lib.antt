-- That an export's contract is that of the library's function.
pub mod Same
