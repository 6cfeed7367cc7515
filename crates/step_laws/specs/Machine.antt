-- A signed local is its bits, so a number that was read is `seen`: the number of its own bits. It is the number itself
-- where that fits, and the tests of `Signed` are stated here of what the machine sees.
use Rattle.std.specs.Prelude.{◌≡◌, refl, Bool, true, false, ℕ, zero, suc, ◌^◌, ◌<◌, ◌≤◌, ℤ, pos, negsuc, nat_abs, neg_ℤ, ◌+ℤ◌, ◌-ℤ◌}
use Rattle.std.proofs.Common.{sym, ◌∙◌, ap, ap₂, arith, lt-ltb, SFits, to_z, of_z, to_z-of_z}
use Rattle.std.specs.Int.Signed.{le_z, lt_z, mag}
use Rattle.std.specs.Int.{w64}
use Rattle.definitions.specs.Integers.{◌⊝◌}
use Rattle.definitions.specs.Steps.{in_range, largest, below_one}
use Rattle.step_laws.specs.Signed.{upper_test, lower_test, upper_fits, lower_fits, mag_abs, abs_mag, abs_negℤ}
use Rattle.step_laws.specs.Signed.{range_in}

abbrev pub seen : ℤ → ℤ
seen v = to_z w64 (of_z w64 v)

-- two numbers that were read, and what is answered of them
module _ {x y : ℤ} (f : SFits w64 x) (g : SFits w64 y) where
  pub seen_both : (op : ℤ → ℤ → ℤ) → op (seen x) (seen y) ≡ op x y
  seen_both op = ap₂ op (to_z-of_z f) (to_z-of_z g)

  pub answered : (op : ℤ → ℤ → ℤ) → SFits w64 (op x y) → seen (op (seen x) (seen y)) ≡ op x y
  answered op h = ap seen (seen_both op) ∙ to_z-of_z h

-- a value that was handed on is seen as it is
pub handed : {v x : ℤ} → SFits w64 x → v ≡ x → seen v ≡ x
handed f e = ap seen e ∙ to_z-of_z f

-- a value in range fits
pub range_fits : (v : ℤ) → in_range largest v ≡ true → SFits w64 v
range_fits v e = record { sfits = omega (arith, mag_abs v, range_in largest v e) }

-- a number that a test says to be within w
pub within : (w : ℕ) (a : ℤ) {r : Bool} → SFits w64 a → r ≡ in_range w (seen a) → r ≡ true → nat_abs a ≤ w
within w a f e t = range_in w a (ap (in_range w) (sym (to_z-of_z f)) ∙ sym e ∙ t)

-- a limit as a machine number, and its negative
module _ (w : ℕ) (most : w ≤ largest) where
  pub limit_fits : SFits w64 (pos w)
  limit_fits = record { sfits = omega arith }

  zero_less : (n : ℕ) → pos 0 -ℤ pos n ≡ neg_ℤ (pos n)
  zero_less zero = refl
  zero_less (suc q) = rw (lt-ltb 0 (suc q) (omega arith)) (ap negsuc (omega arith))

  pub negative : pos 0 -ℤ to_z w64 w ≡ neg_ℤ (pos w)
  negative = ap (λ v. pos 0 -ℤ v) (to_z-of_z limit_fits) ∙ zero_less w

  negative_small : (n : ℕ) → n ≤ largest → mag (neg_ℤ (pos n)) < 2 ^ 63
  negative_small zero h = omega arith
  negative_small (suc q) h = omega arith

  pub negative_fits : SFits w64 (pos 0 -ℤ to_z w64 w)
  negative_fits = rw negative (record { sfits = negative_small w most })

-- the test of a - e by e's sign: the bound that is tested fits, and the test is that of the range
module _ (e : ℤ) (he : nat_abs e ≤ suc largest) where
  pub upper : lt_z e (pos 0) ≡ true → SFits w64 (pos largest +ℤ e)
  upper t = record { sfits = upper_fits 9223372036854775806 e he t }

  pub lower : lt_z e (pos 0) ≡ false → SFits w64 (negsuc 9223372036854775806 +ℤ e)
  lower t = record { sfits = lower_fits 9223372036854775806 e he t }

  pub upper_is : (a : ℤ) → SFits w64 a → lt_z e (pos 0) ≡ true → le_z (seen a) (seen (pos largest +ℤ e))
      ≡ in_range largest (a ⊝ e)
  upper_is a f t = rw (to_z-of_z f, to_z-of_z (upper t)) (upper_test 9223372036854775806 a e f.sfits he t)

  pub lower_is : (a : ℤ) → SFits w64 a → lt_z e (pos 0) ≡ false → le_z (seen (negsuc 9223372036854775806 +ℤ e)) (seen a)
      ≡ in_range largest (a ⊝ e)
  lower_is a f t = rw (to_z-of_z f, to_z-of_z (lower t)) (lower_test 9223372036854775806 a e f.sfits he t)

-- a limit that was read: whether it is below 1
pub below_one_lem : (w : ℤ) {b : Bool} → SFits w64 w → lt_z (seen w) (pos 1) ≡ b → below_one w ≡ b
unfolding below_one
below_one_lem w f e = ap (λ v. lt_z v (pos 1)) (sym (to_z-of_z f)) ∙ e

-- the magnitude of a machine number and of its negative
pub machine_abs : (b : ℤ) → SFits w64 b → nat_abs b ≤ suc largest
machine_abs b f = omega (arith, abs_mag b, f.sfits)

pub machine_neg : (b : ℤ) → SFits w64 b → nat_abs (neg_ℤ b) ≤ suc largest
machine_neg b f = omega (arith, abs_negℤ b, f.sfits)
