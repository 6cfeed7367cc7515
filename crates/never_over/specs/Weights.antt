-- Accumulates of several sizes, one after the other, on 1, 0, 0, ..: the value at i counts the ways to write i as a sum
-- of these sizes. The first makes only 0 and 1; each further one, of size d, turns a bound (i + s)^m / c into (i + s +
-- d)^(m+1) / (c d (m+1)), since d (m+1) y^m + y^(m+1) is at most (y + d)^(m+1) (`power-step`), chain by chain. So m + 1
-- of them make at most (i + their sum)^m / (m! times their product), the first left out of both (`weighed`).
use Prim.Native.Nat.{ℕ, zero, suc, ◌+◌, ◌*◌, ◌-◌, ◌^◌, ◌<◌, ◌≤◌}
use Rattle.std.specs.Prelude.{◌≡◌, List, [], ◌∷◌, map}
use Rattle.std.proofs.Common.{sym, ap, pow-suc, one-mul, mul_assoc, mul_comm, mul-add, mul-suc, add_assoc, mul-pos, le_trans, mul-le-mul_right}
use Rattle.std.proofs.Math.Nat.{pow-zero, add-mul, pow-le-pow_left}
use native.Mathlib.Omega.{arith}
use Rattle.std.proofs.Math.IntN.{nat_abs}
use Rattle.definitions.specs.Series.{Series, ◌·◌}
use Rattle.definitions.specs.Steps.{accumulate, accumulated, stepped}
use Rattle.definitions.specs.KeptHalf.{term_of, product_of}
use Rattle.series.specs.Laws.{·_one}
use Rattle.step_laws.specs.Signed.{abs_⊕}
use Rattle.step_laws.specs.Accumulated.{accumulated_from, accumulated_below, by_chain}
use Rattle.cyclotomic.specs.Kept.{step-term}
use Rattle.never_over.specs.Scales.{Under, Climbs, under_one, under_accumulate}

-- d (m+1) y^m + y^(m+1) ≤ (y + d)^(m+1)
power-step : (y d m : ℕ) → d * suc m * y ^ m + y ^ suc m ≤ (y + d) ^ suc m
power-step y d zero =
    rw (pow-suc y 0, pow-suc (y + d) 0, pow-zero y, pow-zero (y + d), one-mul y, one-mul (y + d)) (omega arith)
power-step y d (suc m) =
    let a = d * suc m * y ^ m in
    let b = y ^ suc m in
    rw (pow-suc (y + d) (suc m), pow-suc y (suc m))
    (le_trans (omega (
      arith,
      mul-suc d (suc m),
      add-mul (d * suc m) d b,
      mul_assoc (d * suc m) (y ^ m) y,
      ap (λ x. d * suc m * x) (pow-suc y m),
      mul-add (a + b) y d,
      add-mul a b y,
      add-mul a b d,
      mul_comm d b,
    )) (mul-le-mul_right (y + d) (power-step y d m)))

-- one accumulate more
module _ (n c s m d : ℕ) (one : 1 ≤ d) (f : Series) (h : Under n c (λ i. (i + s) ^ m) f) where
  -- the entry itself, under the new weight
  entry : (i : ℕ) → i < n → nat_abs (f i) * (c * (d * suc m)) ≤ d * suc m * (i + s) ^ m
  entry i l =
      rw (sym (mul_assoc (nat_abs (f i)) c (d * suc m)), mul_comm (d * suc m) ((i + s) ^ m))
      (mul-le-mul_right (d * suc m) (h i l))

  accumulated-power : Under n (c * (d * suc m)) (λ i. (i + s + d) ^ suc m) (term_of accumulate d · f)
  unfolding stepped
  accumulated-power =
      rw (sym (step-term accumulate d one f))
      (by_chain (λ i. i < n → nat_abs (accumulated d f i) * (c * (d * suc m)) ≤ (i + s + d) ^ suc m) d one
      (λ i o l. rw (accumulated_below d f i o) (omega (arith, entry i l, power-step (i + s) d m)))
      (λ i o before l.
      let back : i - d + s + d ≡ i + s = omega arith in
      let rest : nat_abs (accumulated d f (i - d)) * (c * (d * suc m)) ≤ (i + s) ^ suc m =
      rw back at (before (omega arith)) in
      rw (accumulated_from d f i one o)
      (le_trans (mul-le-mul_right (c * (d * suc m)) (abs_⊕ (f i) (accumulated d f (i - d))))
      (omega (
        arith,
        add-mul (nat_abs (f i)) (nat_abs (accumulated d f (i - d))) (c * (d * suc m)),
        entry i l,
        rest,
        power-step (i + s) d m,
      )))))

-- ---- several
-- the product of the terms of accumulates
unfoldable pub every : List ℕ → Series
every ds = product_of (map (term_of accumulate) ds)

-- the bound of several: (i + shift)^power / over; the last in the list is the first that was taken
pub record Weight : Type 0 where
  pub over : ℕ
  pub shift : ℕ
  pub power : ℕ

unfoldable pub weight : List ℕ → Weight
weight [] = record { over = 1; shift = 0; power = 0 }
weight (d ∷ []) = record { over = 1; shift = 0; power = 0 }
weight (d ∷ e ∷ ds) =
    let w = weight (e ∷ ds) in
    record { over = w.over * (d * suc w.power); shift = w.shift + d; power = suc w.power }

pub data Positive : List ℕ → Type 0 where
  none : Positive []
  some : {d : ℕ} {ds : List ℕ} → 0 < d → Positive ds → Positive (d ∷ ds)

pub over-pos : {ds : List ℕ} → Positive ds → 0 < (weight ds).over
unfolding weight
over-pos none = omega arith
over-pos (some p none) = omega arith
over-pos (some p (some q s)) = mul-pos (over-pos (some q s)) (mul-pos p (omega arith))

pub weighed : (n : ℕ) {ds : List ℕ} → Positive ds
    → Under n (weight ds).over (λ i. (i + (weight ds).shift) ^ (weight ds).power) (every ds)
unfolding weight every product_of
weighed n none i l = rw (pow-zero (i + 0)) (under_one n i l)
weighed n (some {d} p none) i l = rw (·_one (term_of accumulate d), pow-zero (i + 0)) (under_accumulate n d i l)
weighed n (some {d} p (some {d = e} {ds} q s)) i l =
    let w = weight (e ∷ ds) in
    rw (sym (add_assoc i w.shift d))
    (accumulated-power n w.over w.shift w.power d p (every (e ∷ ds)) (weighed n (some q s)) i l)

-- the weight climbs
pub weight_climbs : (s m : ℕ) → Climbs (λ i. (i + s) ^ m)
weight_climbs s m k i l = pow-le-pow_left (omega arith) m
