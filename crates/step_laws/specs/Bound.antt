-- How far a step can make the entries grow: a comb at most doubles the largest magnitude b, and an accumulate at size d
-- makes entry i at most b (i / d + 1). So a step whose growth stays within the range can't be OVER, and needs no test.
use Rattle.std.specs.Prelude.{◌≡◌, true, false, List, ℕ, ◌+◌, ◌*◌, ◌-◌, ◌/◌, ◌<◌, ◌≤◌, length, ℤ, nat_abs}
use Rattle.std.proofs.Math.Nat.{le_trans, div-eq_of_lt, div-eq-sub-div}
use Rattle.std.proofs.Common.{mul-add, mul-one, mul-le-mul_left, le-div_iff_mul-le, div-mul-le_self, arith}
use Rattle.std.proofs.Math.ListN.{get_or-eq_default}
use Rattle.definitions.specs.Integers.{0ℤ}
use Rattle.definitions.specs.Series.{Series, firsts}
use Rattle.definitions.specs.Steps.{Sort, comb, accumulate, combed, accumulated, stepped, in_range, entries, step_over}
use Rattle.definitions.specs.Steps.{step_list}
use Rattle.step_laws.specs.Tests.{by_order}
use Rattle.step_laws.specs.Firsts.{firsts_here, firsts_past}
use Rattle.step_laws.specs.Signed.{abs_⊕, abs_⊝, in_range_lem, range_in}
use Rattle.step_laws.specs.Accumulated.{accumulated_from, accumulated_below, by_chain}
use Rattle.step_laws.specs.Step.{combed_from, stepped_below, get_or-step_list, get_or-step_list_below, length-step_list}
use Rattle.step_laws.specs.Step.{not-over_all, not-over_each}

-- no value of a is larger than b; none up to place i is
abbrev pub Bounded : ℕ → Series → Type 0
Bounded b a = (k : ℕ) → nat_abs (a k) ≤ b

abbrev pub BoundedTo : ℕ → ℕ → Series → Type 0
BoundedTo i b a = (k : ℕ) → k ≤ i → nat_abs (a k) ≤ b

-- the largest magnitude after a step on n entries of magnitude at most b
unfoldable pub growth : Sort → ℕ → ℕ → ℕ → ℕ
growth comb d n b = b + b
growth accumulate d n b = b * (n / d + 1)

-- a step looks back only, so what it makes at i hangs on the values up to i
module _ (d b : ℕ) (a : Series) where
  pub combed_bound : (i : ℕ) → BoundedTo i b a → nat_abs (combed d a i) ≤ b + b
  unfolding stepped
  combed_bound i h =
      by_order i d (λ l. rw (stepped_below d a comb i l) (omega (arith, h i (omega arith))))
      (λ l. rw (combed_from d a i l)
      (omega (arith, abs_⊝ (a i) (a (i - d)), h i (omega arith), h (i - d) (omega arith))))

  -- one more turn of d adds at most b
  turn : 1 ≤ d → (i : ℕ) → d ≤ i → b + b * ((i - d) / d + 1) ≡ b * (i / d + 1)
  turn one i l =
      let q = (i - d) / d in
      let e : b * (q + 1 + 1) ≡ b * (q + 1) + b * 1 = mul-add b (q + 1) 1 in
      rw (div-eq-sub-div one l) (omega (arith, e, mul-one b))

  pub accumulated_bound : 1 ≤ d → (i : ℕ) → BoundedTo i b a → nat_abs (accumulated d a i) ≤ b * (i / d + 1)
  accumulated_bound one =
      by_chain (λ i. BoundedTo i b a → nat_abs (accumulated d a i) ≤ b * (i / d + 1)) d one
      (λ i l h. rw (accumulated_below d a i l, div-eq_of_lt l) (omega (arith, h i (omega arith), mul-one b)))
      (λ i l rest h. rw (accumulated_from d a i one l, ← turn one i l)
      (omega (
        arith,
        abs_⊕ (a i) (accumulated d a (i - d)),
        h i (omega arith),
        rest (λ k m. h k (omega arith)),
      )))

-- no more turns of d go into i than into n
pub fewer_turns : (d n i : ℕ) → 1 ≤ d → i < n → i / d + 1 ≤ n / d + 1
fewer_turns d n i one m =
    omega (arith, (le-div_iff_mul-le {x = i / d} {y = n} one).1 (omega (arith, div-mul-le_self i d)))

-- the same of a list and of either sort
module _ (s : Sort) (d b : ℕ) (one : 1 ≤ d) (l : List ℤ) (h : Bounded b (entries l)) where
  stepped_bound : (s : Sort) (i : ℕ) → i < length l → nat_abs (stepped s d (entries l) i) ≤ growth s d (length l) b
  unfolding stepped growth
  stepped_bound comb i m = combed_bound d b (entries l) i (λ k below. h k)
  stepped_bound accumulate i m =
      le_trans (accumulated_bound d b (entries l) one i (λ k below. h k))
      (mul-le-mul_left b (fewer_turns d (length l) i one m))

  pub growth_inside : (w : ℕ) → growth s d (length l) b ≤ w → (i : ℕ) → i < length l
      → in_range w (stepped s d (entries l) i) ≡ true
  growth_inside w g i m = in_range_lem w (stepped s d (entries l) i) (omega (arith, stepped_bound s i m))

  pub growth-not-over : (w : ℕ) → growth s d (length l) b ≤ w → step_over w s d l ≡ false
  growth-not-over w g = not-over_all s d l w (λ i from m. growth_inside w g i m)

  pub step_list_bound : Bounded (growth s d (length l) b) (entries (step_list s d l))
  unfolding entries
  step_list_bound k =
      by_order k (length l) (λ m. rw (get_or-step_list s d l k m) (stepped_bound s k m))
      (λ m. rw (get_or-eq_default (step_list s d l) 0ℤ {n = k} (rw (length-step_list s d l) m)) (omega arith))

-- what is in the range w stays so where no value leaves it
pub stays_inside : (w : ℕ) (s : Sort) (d : ℕ) (l : List ℤ) → Bounded w (entries l) → step_over w s d l ≡ false
    → Bounded w (entries (step_list s d l))
unfolding entries
stays_inside w s d l h t k =
    by_order k (length l)
    (λ in'. by_order k d
    (λ low. rw (get_or-step_list_below s d l k low in') (h k))
    (λ high. rw (get_or-step_list s d l k in') (range_in w _ (not-over_each s d l w t k high in'))))
    (λ out. rw (get_or-eq_default (step_list s d l) 0ℤ {n = k} (omega (arith, length-step_list s d l))) (omega arith))

-- a list of first values is bounded where they are: past its end stand zeros
pub firsts_bounded : (b n : ℕ) (f : Series) → ((i : ℕ) → i < n → nat_abs (f i) ≤ b) → Bounded b (entries (firsts n f))
firsts_bounded b n f h k =
    by_order k n (λ l. rw (firsts_here n f k l) (h k l)) (λ l. rw (firsts_past n f k l) (omega arith))
