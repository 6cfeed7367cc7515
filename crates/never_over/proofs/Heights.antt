-- No coefficient of F(n) or I(n) is larger than what is promised of the steps of n (`height-promised`), and so none is
-- out of range (`height_fits`, `coefficient_fits`), nor is twice one (`twice_fits`).
use Rattle.std.specs.Prelude.{ℕ, zero, suc, ◌*◌, ◌<◌, ◌≤◌, ◌≡◌, Bool, true, false, eqb, nat_abs}
use Rattle.std.proofs.Common.{arith}
use Rattle.std.proofs.Math.Nat as NatL
use Rattle.definitions.specs.Numbers.{r_of, k_of}
use Rattle.definitions.specs.Polynomials.{polynomial}
use Rattle.definitions.specs.Steps.{largest}
use Rattle.definitions.specs.Requests.{divisors_due, over_among}
use Rattle.definitions.specs.Answer.{height}
use Rattle.cyclotomic.specs.Heights.{at_most-height}
use Rattle.cyclotomic.specs.Inside.{height_inside}
use Rattle.never_over.specs.Promised.{promised_of, promised_at, promised}
use Rattle.never_over.proofs.NotOver.{not-over, not-over-at, promised_fits}

-- a promise, doubled
both_doubled : (k : ℕ) → (2 * suc (promised true k) ≤ largest) × (2 * suc (promised false k) ≤ largest)
unfolding promised promised_at promised_of
both_doubled zero = omega arith
both_doubled (suc zero) = omega arith
both_doubled (suc (suc zero)) = omega arith
both_doubled (suc (suc (suc zero))) = omega arith
both_doubled (suc (suc (suc (suc zero)))) = omega arith
both_doubled (suc (suc (suc (suc (suc zero))))) = omega arith
both_doubled (suc (suc (suc (suc (suc (suc k)))))) = omega arith

doubled : (first : Bool) (k : ℕ) → 2 * suc (promised first k) ≤ largest
doubled true k = (both_doubled k).0
doubled false k = (both_doubled k).1

module _ (n : ℕ) (pos : 0 < n) (small : n ≤ 65535) where
  pub never : (kind : ℕ) → over_among largest kind (r_of n) (divisors_due (r_of n)) ≡ false
  never kind = not-over kind n pos small largest (promised_fits (eqb kind 1) (k_of n)) (divisors_due (r_of n))
      (omega arith)

  pub height_fits : (kind : ℕ) → height kind n ≤ largest
  height_fits kind = height_inside largest kind n pos (omega arith) (never kind)

  pub coefficient_fits : (kind i : ℕ) → nat_abs (polynomial kind n i) ≤ largest
  coefficient_fits kind i = NatL.le_trans (at_most-height kind n pos i) (height_fits kind)

  pub height-promised : (kind : ℕ) → 1 ≤ promised_at (eqb kind 1) (k_of n) (r_of n)
      → height kind n ≤ promised_at (eqb kind 1) (k_of n) (r_of n)
  height-promised kind some =
      height_inside (promised_at (eqb kind 1) (k_of n) (r_of n)) kind n pos some
      (not-over-at kind n pos small (promised_at (eqb kind 1) (k_of n) (r_of n)) (omega arith) (divisors_due (r_of n))
      (omega arith))

  pub twice_fits : (kind i : ℕ) → 2 * nat_abs (polynomial kind n i) ≤ largest
  twice_fits kind i =
      let w : ℕ = suc (promised (eqb kind 1) (k_of n)) in
      let at : nat_abs (polynomial kind n i) ≤ w =
      NatL.le_trans (at_most-height kind n pos i)
      (height_inside w kind n pos (omega arith)
      (not-over kind n pos small w (omega arith) (divisors_due (r_of n)) (omega arith))) in
      omega (arith, doubled (eqb kind 1) (k_of n))
