-- 1 / ((1 - z^p) (1 - z^q)) counts at i the ways to write i as a multiple of p plus a multiple of q. Where p and q are
-- coprime there is at most one below p q, so it has no values there but 0 and 1 (`sums_once`): along the chains of q,
-- where p divides i and i - q is a multiple of p plus b q, p divides (b + 1) q, so b + 1, and i is at least p q. Hence
-- times 1 - z it has no magnitude above 1 there (`sums_flat`).
use Prim.Native.Nat.{ℕ, suc, ◌+◌, ◌*◌, ◌-◌, ◌<◌, ◌≤◌, ◌∣◌}
use Rattle.std.specs.Prelude.{◌≡◌, Bool, cond, ℤ, nat_abs}
use Rattle.std.proofs.Math.Path.{refl}
use Rattle.std.proofs.Common.{sym, mul-le-mul_right, mul_comm, suc-mul}
use Rattle.std.proofs.Math.Bool.{true, false}
use Rattle.std.proofs.Math.Nat.{dvd-add_iff_right, le_of_dvd}
use native.Mathlib.Omega.{arith}
use Rattle.definitions.specs.Integers.{◌⊕◌, ⊖, ◌⊝◌, 0ℤ, 1ℤ}
use Rattle.definitions.specs.Series.{Series, ◌·◌}
use Rattle.definitions.specs.Numbers.{divides}
use Rattle.definitions.specs.Steps.{comb, accumulate, stepped, accumulated}
use Rattle.definitions.specs.KeptHalf.{term_of}
use Rattle.numbers.specs.Tests.{yes_divides}
use Rattle.numbers.specs.Primes.{Coprime, coprime_divides}
use Rattle.step_laws.specs.Tests.{by_order}
use Rattle.step_laws.specs.Accumulated.{accumulated_from, accumulated_below, by_chain}
use Rattle.cyclotomic.specs.Terms.{comb_below, comb_from}
use Rattle.cyclotomic.specs.Kept.{step-term}

-- i is a multiple of p and b times q
record Way (p q i : ℕ) : Type 0 where
  rest : ℕ
  b : ℕ
  multiple : p ∣ rest
  whole : rest + b * q ≡ i

-- a value that is 0, or is 1 where there is a way
data Once (p q i : ℕ) : ℤ → Type 0 where
  none : Once p q i 0ℤ
  one : Way p q i → Once p q i 1ℤ

-- 1 / ((1 - z^p) (1 - z^q))
unfoldable pub sums : ℕ → ℕ → Series
sums p q = term_of accumulate q · term_of accumulate p

module _ (p q : ℕ) where
  -- the magnitudes of such values and of their differences
  once_flat : {i : ℕ} {v : ℤ} → Once p q i v → nat_abs v ≤ 1
  once_flat none = omega arith
  once_flat (one w) = omega arith

  difference_flat : {i j : ℕ} {u v : ℤ} → Once p q i u → Once p q j v → nat_abs (u ⊝ v) ≤ 1
  unfolding ◌⊕◌ ⊖
  difference_flat none none = omega arith
  difference_flat none (one w) = omega arith
  difference_flat (one w) none = omega arith
  difference_flat (one w) (one x) = omega arith

  -- with no q, and with one q more
  first : (i : ℕ) (c : Bool) → divides p i ≡ c → Once p q i (cond c 1ℤ 0ℤ)
  first i true e = one (record { rest = i; b = 0; multiple = yes_divides p i e; whole = omega arith })
  first i false e = none

  one_more : {i : ℕ} → q ≤ i → (w : Way p q (i - q)) → w.rest + suc w.b * q ≡ i
  one_more l w = omega (arith, w.whole, suc-mul w.b q)

  module _ (apart : Coprime p q) (pos : 0 < q) where
    -- where there is a way at i - q, i below p q is no multiple of p
    no_second : (i : ℕ) → i < p * q → q ≤ i → p ∣ i → Way p q (i - q) → ⊥
    no_second i below from d w =
        let turns = suc w.b in
        let in_turns : p ∣ q * turns =
        rw (mul_comm q turns) ((dvd-add_iff_right p {m = w.rest} w.multiple).1 (rw (one_more from w) d)) in
        omega (
          arith,
          one_more from w,
          mul-le-mul_right q (le_of_dvd (omega arith) (coprime_divides p q turns apart in_turns)),
        )

    next : (i : ℕ) → i < p * q → q ≤ i → (c : Bool) → divides p i ≡ c → {v : ℤ} → Once p q (i - q) v
        → Once p q i (cond c 1ℤ 0ℤ ⊕ v)
    unfolding ◌⊕◌
    next i below from true e none = first i true e
    next i below from true e (one w) = absurd (no_second i below from (yes_divides p i e) w)
    next i below from false e none = none
    next i below from false e (one w) =
        one (record { rest = w.rest; b = suc w.b; multiple = w.multiple; whole = one_more from w })

    sums_once : (i : ℕ) → i < p * q → Once p q i (sums p q i)
    unfolding sums stepped term_of
    sums_once =
        rw (sym (step-term accumulate q pos (term_of accumulate p)))
        (by_chain (λ i. i < p * q → Once p q i (accumulated q (term_of accumulate p) i)) q pos
        (λ i l below. rw (accumulated_below q (term_of accumulate p) i l) (first i (divides p i) refl))
        (λ i l before below. rw (accumulated_from q (term_of accumulate p) i pos l)
        (next i below l (divides p i) refl (before (omega arith)))))

    pub sums_flat : (i : ℕ) → i < p * q → nat_abs ((term_of comb 1 · sums p q) i) ≤ 1
    sums_flat i below =
        by_order i 1 (λ l. rw (comb_below 1 (sums p q) i l) (once_flat (sums_once i below)))
        (λ l. rw (comb_from 1 (sums p q) i l)
        (difference_flat (sums_once i below) (sums_once (i - 1) (omega arith))))
