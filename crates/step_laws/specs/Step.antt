-- The steps, entry by entry: below d an entry stays; from d on a comb takes the older entry away and an accumulate adds
-- the new one. Then the same of `step_list` and `step_over`, and that a step whose size is at least the length does
-- nothing.
use Rattle.std.specs.Prelude.{◌≡◌, true, false, List, ℕ, ◌-◌, ◌<◌, ◌≤◌, length, get_or, ℤ}
use Rattle.std.proofs.Common.{sym, ◌∙◌, ap, arith, lt-ltb, le-ltb}
use Rattle.definitions.specs.Integers.{◌⊕◌, ◌⊝◌, 0ℤ}
use Rattle.definitions.specs.Series.{Series}
use Rattle.definitions.specs.Steps.{Sort, comb, accumulate, combed, stepped, in_range, entries, step_over, step_list}
use Rattle.step_laws.specs.Accumulated.{accumulated_from, accumulated_below}
use Rattle.step_laws.specs.Firsts.{length-firsts, get_or-firsts, firsts_same, firsts-entries}
use Rattle.step_laws.specs.Outside.{OutsideAt, outside-found, outside_is, inside_each, inside_all}

module _ (d : ℕ) (a : Series) where
  pub combed_from : (i : ℕ) → d ≤ i → combed d a i ≡ a i ⊝ a (i - d)
  unfolding combed
  combed_from i h = rw (le-ltb i d h)

  pub stepped_below : (s : Sort) (i : ℕ) → i < d → stepped s d a i ≡ a i
  unfolding stepped combed
  stepped_below comb i h = rw (lt-ltb i d h)
  stepped_below accumulate i h = accumulated_below d a i h

module _ (s : Sort) (d : ℕ) (l : List ℤ) where
  pub length-step_list : length (step_list s d l) ≡ length l
  unfolding step_list
  length-step_list = length-firsts (length l) (stepped s d (entries l))

  pub get_or-step_list : (i : ℕ) → i < length l → get_or (step_list s d l) i 0ℤ ≡ stepped s d (entries l) i
  unfolding step_list
  get_or-step_list = get_or-firsts (length l) (stepped s d (entries l))

  pub get_or-step_list_below : (i : ℕ) → i < d → i < length l → get_or (step_list s d l) i 0ℤ ≡ get_or l i 0ℤ
  unfolding entries
  get_or-step_list_below i h b = get_or-step_list i b ∙ stepped_below d (entries l) s i h

  -- some value from d on is outside the range
  pub over-found : (w : ℕ) → step_over w s d l ≡ true → OutsideAt w d (length l) (stepped s d (entries l))
  unfolding step_over
  over-found w = outside-found w d (stepped s d (entries l)) (length l)

  pub over_is : (w : ℕ) → OutsideAt w d (length l) (stepped s d (entries l)) → step_over w s d l ≡ true
  unfolding step_over
  over_is w = outside_is w d (stepped s d (entries l)) (length l)

  -- each value from d on is in range
  pub not-over_each : (w : ℕ) → step_over w s d l ≡ false → (i : ℕ) → d ≤ i → i < length l
      → in_range w (stepped s d (entries l) i) ≡ true
  unfolding step_over
  not-over_each w = inside_each w d (stepped s d (entries l)) (length l)

  pub not-over_all : (w : ℕ) → ((i : ℕ) → d ≤ i → i < length l → in_range w (stepped s d (entries l) i) ≡ true)
      → step_over w s d l ≡ false
  unfolding step_over
  not-over_all w = inside_all w d (stepped s d (entries l)) (length l)

  -- a size that is at least the length
  pub long-not-over : (w : ℕ) → length l ≤ d → step_over w s d l ≡ false
  long-not-over w h = not-over_all w (λ i from below. absurd (short from below))
    where
      short : {i : ℕ} → d ≤ i → i < length l → ⊥
      short from below = omega arith

  pub long_stays : length l ≤ d → step_list s d l ≡ l
  unfolding step_list
  long_stays h =
      firsts_same (length l) (stepped s d (entries l)) (entries l)
      (λ k b. stepped_below d (entries l) s k (omega arith))
      ∙ firsts-entries l

-- the two sorts at d and above
pub get_or-combed : (d : ℕ) (l : List ℤ) (i : ℕ) → d ≤ i → i < length l → get_or (step_list comb d l) i 0ℤ
    ≡ get_or l i 0ℤ ⊝ get_or l (i - d) 0ℤ
unfolding stepped entries
get_or-combed d l i h b = get_or-step_list comb d l i b ∙ combed_from d (entries l) i h

pub get_or-accumulated : (d : ℕ) (l : List ℤ) (i : ℕ) → 1 ≤ d → d ≤ i → i < length l → get_or (step_list accumulate d l) i 0ℤ
    ≡ get_or l i 0ℤ ⊕ get_or (step_list accumulate d l) (i - d) 0ℤ
unfolding stepped entries
get_or-accumulated d l i one h b =
    get_or-step_list accumulate d l i b
    ∙ accumulated_from d (entries l) i one h
    ∙ ap (λ v. get_or l i 0ℤ ⊕ v) (sym (get_or-step_list accumulate d l (i - d) (omega arith)))
