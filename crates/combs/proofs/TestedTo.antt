-- The tested comb, place by place: each new value is within w and each old entry fits, one place further down, or back;
-- and a list whose entries are small stays so.
use mathlib.Core.Path.{◌≡◌, sym, ◌∙◌, ap, subst}
use mathlib.Core.Bool.{true}
use mathlib.Core.List.{List}
use Prim.Native.Nat.{ℕ, ◌+◌, ◌-◌, ◌<◌, ◌≤◌}
use native.Mathlib.Nat.{not-le_of_lt}
use native.Mathlib.Omega.{arith}
use lib.ListN.{length, set, get_or-eq_default}
use lib.IntN.{ℤ}
use mir.Syntax.{w64}
use mir.Val.{SFits}
use Rattle.definitions.specs.Integers.{0ℤ}
use Rattle.definitions.specs.Steps.{comb, accumulate, stepped, in_range, entries}
use Rattle.step_laws.specs.Bound.{Bounded}
use Rattle.step_laws.specs.Signed.{range_in}
use Rattle.step_laws.specs.Step.{not-over_each}
use Rattle.step_laws.specs.Tests.{by_order}
use Rattle.entry_steps.specs.Passes.{new_entry, addable, Narrow}
use Rattle.entry_steps.specs.Asked.{Way, known, narrow, wide, AskedAt, AskedOfStep}
use Rattle.combs.specs.Combs.{ReadTo, TestedTo}
use Rattle.combs.proofs.CombedTo.{start, new_is, next, back, old_is}

pub tested-start : (w d : ℕ) (l : List ℤ) → d ≤ length l → TestedTo w d l l (length l)
tested-start w d l h =
    record {
      read = record { done = start d l h; fit = λ k h b. absurd (not-le_of_lt b h) };
      inside = λ k h b. absurd (not-le_of_lt b h);
    }

-- what holds from k + 1 on, and at k, holds from k on
and-next : (P : ℕ → Type 0) {n i : ℕ} (k : ℕ) → i ≡ k + 1 → ((x : ℕ) → i ≤ x → x < n → P x) → P k
    → (x : ℕ) → k ≤ x → x < n → P x
and-next P k e all this x h b =
    by_order k x (λ high. all x (omega arith) b) (λ low. subst P (same low) this)
  where
    same : x ≤ k → k ≡ x
    same low = omega arith

module _ {w d : ℕ} {l m : List ℤ} {i : ℕ} (p : TestedTo w d l m i) where
  pub tested-next : (k : ℕ) → i ≡ k + 1 → d ≤ k → in_range w (new_entry comb d m k) ≡ true → SFits w64 (entries m k)
      → TestedTo w d l (set m k (new_entry comb d m k)) k
  unfolding entries
  tested-next k e h r f =
      record {
        read = record {
          done = next p.read.done k e h;
          fit =
              and-next (λ x. SFits w64 (entries l x)) k e p.read.fit
              (rw (p.read.done.split.below k (omega arith) (omega arith)) at f);
        };
        inside =
            and-next (λ x. in_range w (stepped comb d (entries l) x) ≡ true) k e p.inside
            (ap (in_range w) (sym (new_is p.read.done k h (omega arith))) ∙ r);
      }

  -- each entry is an old one or a value within w
  still_small : Narrow w l → Bounded addable (entries m)
  unfolding entries
  still_small n k =
      by_order k (length l)
      (λ b.
      by_order k i (λ low. rw (p.read.done.split.below k low b) (n.small k))
      (λ high. rw (p.read.done.split.above k high b) (omega (arith, range_in w _ (p.inside k high b)))))
      (λ out. rw (get_or-eq_default m 0ℤ {n = k} (omega arith)) (omega arith))

  -- what is asked of the step is asked of the next place
  pub asked-next : (k : ℕ) → d ≤ k → k < i → (t : Way) → AskedOfStep t w comb d l → AskedAt t w comb d m k
  unfolding entries
  asked-next k h b known none =
      ap (in_range w) (new_is p.read.done k h b)
      ∙ not-over_each comb d l w none k h (omega (arith, p.read.done.most))
  asked-next k h b narrow n = (still_small n k, still_small n (k - d))
  asked-next k h b wide _ = tt

-- one place back
module _ {d : ℕ} {l m : List ℤ} {i : ℕ} (p : ReadTo d l m i) (one : 1 ≤ d) (b : i < length l) where
  pub read_back : ReadTo d l (set m i (new_entry accumulate d m i)) (i + 1)
  read_back = record { done = back p.done one b; fit = λ x h. p.fit x (omega arith) }

  pub back_fits : SFits w64 (new_entry accumulate d m i)
  back_fits = rw (old_is p.done one b) (p.fit i (omega arith) b)
