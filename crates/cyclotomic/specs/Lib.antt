-- The cyclotomic polynomials and the inverse ones: that they exist, are the only ones, and are what docs/RULES.md says
-- of them.
pub mod Family
pub mod OnePrime
pub mod Finite
pub mod Degrees
pub mod Signs
pub mod Mirrors
pub mod Apart
pub mod Heights
pub mod Gain
pub mod Terms
pub mod Kept
pub mod Inside
pub mod Worked
pub mod Second
