-- A number in range, negated by the machine: `0 - x` of what was read is ⊖ x, and it fits.
use Prim.Native.Nat.{◌^◌, ◌<◌, ◌≤◌}
use lib.Signed.{mag}
use mathlib.Core.Path.{◌≡◌, ◌∙◌, ap}
use native.Mathlib.Omega.{arith}
use lib.IntN.{ℤ, pos, nat_abs, neg_ℤ, ◌-ℤ◌, +ℤ_idl}
use mir.Syntax.{w64}
use mir.Val.{SFits}
use mir.Facts.{to_z-of_z}
use Rattle.definitions.specs.Integers.{⊖}
use Rattle.definitions.specs.Steps.{largest}
use Rattle.step_laws.specs.Signed.{mag_abs, abs_⊖}
use Rattle.step_laws.specs.Machine.{seen}

pub neg_fits : (v : ℤ) → nat_abs v ≤ largest → SFits w64 (⊖ v)
neg_fits v h = record { sfits = omega (arith, mag_abs (⊖ v), abs_⊖ v) }

-- a machine number that was read is itself
module _ (v : ℤ) (f : mag v < 2 ^ 63) where
  pub read_back : seen v ≡ v
  read_back = to_z-of_z {w = w64} {z = v} (record { sfits = f })

  pub minus_seen : pos 0 -ℤ seen v ≡ ⊖ v
  unfolding ⊖
  minus_seen = ap (λ x. pos 0 -ℤ x) read_back ∙ +ℤ_idl (neg_ℤ v)

  pub stored_minus : nat_abs v ≤ largest → seen (pos 0 -ℤ seen v) ≡ ⊖ v
  stored_minus h = ap seen minus_seen ∙ to_z-of_z (neg_fits v h)

  pub minus_fits : nat_abs v ≤ largest → SFits w64 (pos 0 -ℤ seen v)
  minus_fits h = rw minus_seen (neg_fits v h)
