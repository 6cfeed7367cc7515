-- The theorems: at 1, i, -1 and -i the response is exact, the gain at 1, and 0 at a notch.
pub mod Exact
pub mod Gain
pub mod Notches
