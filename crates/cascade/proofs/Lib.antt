-- Cascades: what the routine goes by, one outcome for each input, and the theorems between this request and others.
pub mod Lists
pub mod OneFactor
pub mod Sizing
pub mod Underway
pub mod Answering
pub mod Between
pub mod OneOutcome
