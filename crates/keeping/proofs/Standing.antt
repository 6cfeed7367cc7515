-- A number as it stands in w bytes, which take it, is the lowest w bytes of its bits.
use Prim.Native.Nat.{ℕ, ◌*◌, ◌≤◌, ◌^◌, ◌%◌}
use mathlib.Core.Path.{◌≡◌}
use mathlib.Core.Bool.{true}
use native.Mathlib.Omega.{arith}
use lib.IntN.{ℤ, pos, negsuc, nat_abs}
use mir.Syntax.{w64}
use mir.Val.{of_z}
use Rattle.widths.specs.Numbers.{top, twos, widths, one_of}
use Rattle.widths.proofs.Least.{width_cases}

abbrev Lowest : ℕ → Type 0
Lowest w = (x : ℤ) → nat_abs x ≤ top w → of_z w64 x % 2 ^ (8 * w) ≡ twos w x

in_one : Lowest 1
unfolding top twos
in_one (pos n) h = omega arith
in_one (negsuc n) h = omega arith

in_two : Lowest 2
unfolding top twos
in_two (pos n) h = omega arith
in_two (negsuc n) h = omega arith

in_four : Lowest 4
unfolding top twos
in_four (pos n) h = omega arith
in_four (negsuc n) h = omega arith

in_eight : Lowest 8
unfolding top twos
in_eight (pos n) h = omega arith
in_eight (negsuc n) h = omega arith

pub lowest : (w : ℕ) → one_of widths w ≡ true → Lowest w
lowest = width_cases Lowest in_one in_two in_four in_eight

-- by the width, whose lowest bytes they are
pub stands : (w v : ℕ) (x : ℤ) → one_of widths w ≡ true → nat_abs x ≤ top w → w ≡ v → (b : ℕ) → b ≡ of_z w64 x
    → b % 2 ^ (8 * v) ≡ twos w x
stands w v x one fits e b is = rw (← e, is) (lowest w one x fits)
