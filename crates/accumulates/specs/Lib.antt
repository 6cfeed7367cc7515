-- What the contracts of `accumulates` cite beside those of the crates beneath it.
pub mod Stopped
