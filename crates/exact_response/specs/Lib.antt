-- What is proved of the response at 1, i, -1 and -i, in proofs/: that it is exact: the whole-number value, the gain at 1,
-- and 0 at a notch.
pub mod Points
pub mod Exact
pub mod Gain
pub mod Notches
