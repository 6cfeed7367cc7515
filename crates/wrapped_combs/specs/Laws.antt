-- What a step modulo 2^64 leaves: as many entries, each a 64-bit number, and modulo 2^64 those of the step on whole
-- numbers, also where the entries were known only so.
use Rattle.std.specs.Prelude.{◌≡◌, false, List, ℕ, ◌-◌, ◌<◌, ◌≤◌, length, ℤ}
use Rattle.std.proofs.Math.Path.{refl, sym, ap}
use Rattle.std.proofs.Common.{◌∙◌, lt-ltb, le-ltb}
use native.Mathlib.Omega.{arith}
use Rattle.definitions.specs.Integers.{◌⊕◌, ◌⊝◌}
use Rattle.definitions.specs.Series.{Series}
use Rattle.definitions.specs.Steps.{Sort, comb, accumulate, stepped, entries, step_over, step_list, largest}
use Rattle.step_laws.specs.Tests.{by_order}
use Rattle.step_laws.specs.Firsts.{length-firsts, firsts_here, firsts_past, firsts_same, firsts-entries}
use Rattle.step_laws.specs.Accumulated.{accumulated_from, accumulated_below, by_chain}
use Rattle.step_laws.specs.Machine.{range_fits}
use Rattle.step_laws.specs.Step.{combed_from, stepped_below, not-over_each}
use Rattle.wrapped_sums.specs.Wrapped.{wrap, Like, AllFit}
use Rattle.wrapped_combs.specs.Wrapped.{wrapped_step, wrapped_list}
use Rattle.wrapped_sums.specs.Residues.{wrap_fits, wrap_fit, wrap-wrap, like_⊕, like_⊝}

module _ (s : Sort) (d : ℕ) (f : Series) where
  pub wrapped_below : (i : ℕ) → i < d → wrapped_step s d f i ≡ f i
  unfolding wrapped_step
  wrapped_below i h = rw (lt-ltb i d h)

  pub wrapped_above : (i : ℕ) → d ≤ i → wrapped_step s d f i ≡ wrap (stepped s d f i)
  unfolding wrapped_step
  wrapped_above i h = rw (le-ltb i d h)

  -- modulo 2^64 it is the step on whole numbers
  pub wrapped_is : (i : ℕ) → wrap (wrapped_step s d f i) ≡ wrap (stepped s d f i)
  wrapped_is i =
      by_order i d (λ l. ap wrap (wrapped_below i l ∙ sym (stepped_below d f s i l)))
      (λ l. ap wrap (wrapped_above i l) ∙ wrap-wrap (stepped s d f i))

-- what the machine puts at i: of the old entry d before, or of the new one
module _ (d : ℕ) (f : Series) (i : ℕ) (h : d ≤ i) where
  pub wrapped_comb : wrapped_step comb d f i ≡ wrap (f i ⊝ f (i - d))
  unfolding stepped
  wrapped_comb = wrapped_above comb d f i h ∙ ap wrap (combed_from d f i h)

  pub wrapped_sum : 1 ≤ d → wrapped_step accumulate d f i ≡ wrap (f i ⊕ wrapped_step accumulate d f (i - d))
  unfolding stepped
  wrapped_sum one =
      wrapped_above accumulate d f i h
      ∙ ap wrap (accumulated_from d f i one h)
      ∙ sym (like_⊕ (f i) (f i) _ _ refl (wrapped_is accumulate d f (i - d)))

module _ (s : Sort) (d : ℕ) (l : List ℤ) where
  pub length_wrapped : length (wrapped_list s d l) ≡ length l
  unfolding wrapped_list
  length_wrapped = length-firsts (length l) (wrapped_step s d (entries l))

  pub wrapped_here : (i : ℕ) → i < length l → entries (wrapped_list s d l) i ≡ wrapped_step s d (entries l) i
  unfolding wrapped_list
  wrapped_here i h = firsts_here (length l) (wrapped_step s d (entries l)) i h

  pub wrapped_fit : AllFit l → AllFit (wrapped_list s d l)
  unfolding wrapped_list
  wrapped_fit fit i =
      by_order i (length l)
      (λ m. rw (firsts_here (length l) (wrapped_step s d (entries l)) i m)
      (by_order i d (λ low. rw (wrapped_below s d (entries l) i low) (fit i))
      (λ high. rw (wrapped_above s d (entries l) i high) (wrap_fits (stepped s d (entries l) i)))))
      (λ m. rw (firsts_past (length l) (wrapped_step s d (entries l)) i m) (record { sfits = omega arith }))

  -- a size that is at least the length
  pub wrapped_long : length l ≤ d → wrapped_list s d l ≡ l
  unfolding wrapped_list
  wrapped_long h =
      firsts_same (length l) (wrapped_step s d (entries l)) (entries l)
      (λ k b. wrapped_below s d (entries l) k (omega arith))
      ∙ firsts-entries l

-- a step respects it
module _ (n d : ℕ) (f g : Series) (one : 1 ≤ d) (like : Like n f g) where
  stepped_at : (s : Sort) (i : ℕ) → i < n → wrap (stepped s d f i) ≡ wrap (stepped s d g i)
  unfolding stepped
  stepped_at comb i b =
      by_order i d (λ l. ap wrap (stepped_below d f comb i l) ∙ like i b ∙ ap wrap (sym (stepped_below d g comb i l)))
      (λ l. ap wrap (combed_from d f i l)
      ∙ like_⊝ (f i) (g i) (f (i - d)) (g (i - d)) (like i b) (like (i - d) (omega arith))
      ∙ ap wrap (sym (combed_from d g i l)))
  stepped_at accumulate i b =
      by_chain (λ i. i < n → wrap (stepped accumulate d f i) ≡ wrap (stepped accumulate d g i)) d one
      (λ i l b. ap wrap (accumulated_below d f i l) ∙ like i b ∙ ap wrap (sym (accumulated_below d g i l)))
      (λ i l rest b.
      ap wrap (accumulated_from d f i one l)
      ∙ like_⊕ (f i) (g i) (stepped accumulate d f (i - d)) (stepped accumulate d g (i - d)) (like i b)
      (rest (omega arith))
      ∙ ap wrap (sym (accumulated_from d g i one l)))
      i b

  pub stepped_like : (s : Sort) → Like n (stepped s d f) (stepped s d g)
  stepped_like s = stepped_at s

pub wrapped_like : (s : Sort) (d : ℕ) (l : List ℤ) (f : Series) → 1 ≤ d → Like (length l) (entries l) f
    → Like (length l) (entries (wrapped_list s d l)) (stepped s d f)
wrapped_like s d l f one like i b =
    ap wrap (wrapped_here s d l i b)
    ∙ wrapped_is s d (entries l) i
    ∙ stepped_like (length l) d (entries l) f one like s i b

-- where no value leaves the range it is the step
pub wrapped_known : (s : Sort) (d : ℕ) (l : List ℤ) → step_over largest s d l ≡ false
    → wrapped_list s d l ≡ step_list s d l
unfolding wrapped_list step_list
wrapped_known s d l inside =
    firsts_same (length l) (wrapped_step s d (entries l)) (stepped s d (entries l))
    (λ k b.
    by_order k d (λ low. wrapped_below s d (entries l) k low ∙ sym (stepped_below d (entries l) s k low))
    (λ high. wrapped_above s d (entries l) k high
    ∙ wrap_fit (range_fits (stepped s d (entries l) k) (not-over_each s d l largest inside k high b))))
