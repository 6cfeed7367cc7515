-- The whole polynomial from its first half, in the buffer; and one outcome for each input.
pub mod Rebuilding
pub mod OneOutcome
