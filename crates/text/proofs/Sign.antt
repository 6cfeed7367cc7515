-- The sign of a machine number, by the test that the code makes.
use mathlib.Core.Path.{◌≡◌, refl}
use mathlib.Core.Bool.{true, false, true≢false}
use mathlib.Core.List.{[], ◌∷◌}
use native.Mathlib.Nat.{not-suc-le-zero}
use borrow.Author.Tests.{ltb-true}
use lib.IntN.{ℤ, pos, negsuc}
use lib.Signed.{lt_z}
use Rattle.text.specs.Text.{MINUS, sign}

pub sign_below : (c : ℤ) → lt_z c (pos 0) ≡ true → sign c ≡ MINUS ∷ []
unfolding sign
sign_below (pos n) t = absurd (not-suc-le-zero (ltb-true n 0 t))
sign_below (negsuc n) t = refl

pub sign_above : (c : ℤ) → lt_z c (pos 0) ≡ false → sign c ≡ []
unfolding sign
sign_above (pos n) t = refl
sign_above (negsuc n) t = absurd (true≢false t)
