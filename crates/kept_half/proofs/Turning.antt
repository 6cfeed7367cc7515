-- One divisor's turn: where the walk stands at place j and more are due, it hands out the divisor there with mu of r/d,
-- and the step on the kept half after j divisors gives that after j + 1.
use Prim.Native.Nat.{ℕ, suc, ◌+◌, ◌-◌, ◌/◌, ◌<◌, ◌≤◌}
use mathlib.Core.Path.{◌≡◌, sym, ◌∙◌, ap, ap₂}
use mathlib.Core.Bool.{true, false, cond, not}
use mathlib.Core.List.{List}
use native.Mathlib.Omega.{arith}
use lib.ListN.{length}
use lib.Dec.{eqb}
use lib.IntN.{ℤ}
use Rattle.definitions.specs.Numbers.{divisors_below, mu_is_plus}
use Rattle.definitions.specs.Steps.{Sort, comb, accumulate, entries, step_over, step_list}
use Rattle.definitions.specs.KeptHalf.{half_degree, sort_of, kept_series, kept_half}
use Rattle.definitions.specs.Requests.{divisors_due, next_divisor, over_at}
use Rattle.std.specs.Prelude.{Option, Some, None}
use Rattle.step_laws.specs.Bound.{Bounded}
use Rattle.step_laws.specs.Firsts.{length-firsts}
use Rattle.cyclotomic.specs.Kept.{step_kept}
use Rattle.cyclotomic.specs.Inside.{divisor_in}
use Rattle.divisors.specs.Walks.{taken, walk_at, next_of, divisor_at}
use Rattle.divisors.proofs.Walking.{next_more}
use Rattle.outlined_steps.specs.Outlines.{Told, outlined}
use Rattle.outlined_steps.specs.Outcome.{StepDue, OutlinedTaken, OutlinedNotTaken}
use Rattle.kept_half.specs.Halves.{KeptHalfAt}
use Rattle.divisors.specs.declared.Walk.{Walk}
use Rattle.divisors.specs.declared.Divisor.{Divisor}
use Rattle.outlined_steps.specs.declared.Outline.{Outline}
use Rattle.outlined_steps.specs.declared.Outlined.{Outlined}

pub kept-length : (kind r j : ℕ) → length (kept_half kind r j) ≡ half_degree kind r + 1
unfolding kept_half
kept-length kind r j = length-firsts (half_degree kind r + 1) (kept_series kind r j)

-- the step of the walk's next divisor was taken, and left m; or it was not
pub record Turned (limit kind : ℕ) (w : Walk) (m : List ℤ) (x : Outlined) : Type 0 where
  pub over : over_at limit kind w.r (taken w) ≡ false
  pub told : Told x.outline m
  pub half : outlined x.outline m ≡ kept_half kind w.r (suc (taken w))
  pub bounded : Bounded x.bound (entries (outlined x.outline m))
  pub inside : x.bound ≤ limit
  pub len : length m ≡ half_degree kind w.r + 1

pub record NotTurned (limit kind : ℕ) (w : Walk) (m : List ℤ) : Type 0 where
  pub over : over_at limit kind w.r (taken w) ≡ true
  pub len : length m ≡ half_degree kind w.r + 1

module _ (limit kind : ℕ) (w : Walk) (bound : ℕ) (o : Outline) (l : List ℤ) (st : KeptHalfAt limit kind w bound o l)
    (more : 0 < w.due) where
  r : ℕ
  r = w.r

  j : ℕ
  j = taken w

  -- so many are due, so more are left
  pub still : taken w < divisors_due w.r
  unfolding divisors_due walk_at
  still =
      let due : w.due ≡ length (divisors_below w.r) - taken w = ap (λ (x : Walk). x.due) st.walk.here in
      omega arith

  handed : next_of w
      ≡ (
        Some (record {
          size = divisor_at w.r (taken w);
          plus = mu_is_plus (w.r / divisor_at w.r (taken w));
        }),
        walk_at w.r (suc (taken w)),
      )
  unfolding divisors_due
  handed = next_more w.r (taken w) still

  pub not-nothing : (t : Walk) → ◌≡◌ {A = Option Divisor × Walk} (None, t) (next_of w) → ⊥
  not-nothing t e = let p : ◌≡◌ {A = Option Divisor} None (Some _) = ap (λ (x : Option Divisor × Walk). x.0) (e ∙ handed) in cc

  -- what the walk handed out
  module _ (d : Divisor) (t : Walk) (e : ◌≡◌ {A = Option Divisor × Walk} (Some d, t) (next_of w)) where
    same : Some d ≡ Some (record {
      size = divisor_at w.r (taken w);
      plus = mu_is_plus (w.r / divisor_at w.r (taken w));
    })
    same = ap (λ (x : Option Divisor × Walk). x.0) (e ∙ handed)

    pub after : t ≡ walk_at w.r (suc (taken w))
    after = ap (λ (x : Option Divisor × Walk). x.1) (e ∙ handed)

    pub size_is : d.size ≡ next_divisor w.r (taken w)
    unfolding next_divisor
    size_is = cc (same)

    plus_is : d.plus ≡ mu_is_plus (w.r / next_divisor w.r (taken w))
    unfolding next_divisor
    plus_is = cc (same)

    pub step_due : StepDue limit bound d.size o l
    step_due =
        record {
          told = st.told;
          size = omega (arith, size_is, (divisor_in w.r (taken w) still).0);
          bounded = st.bounded;
          inside = st.inside;
          good = st.good;
        }

    module _ (s : Sort) (es : s ≡ cond (cond (eqb kind 1) d.plus (not d.plus)) comb accumulate) (m : List ℤ) where
      l-length : length (outlined o l) ≡ half_degree kind w.r + 1
      l-length = ap length st.half ∙ kept-length kind w.r (taken w)

      abbrev size : ℕ
      size = next_divisor w.r (taken w)

      sort_is : s ≡ sort_of kind w.r size
      unfolding sort_of
      sort_is = es ∙ ap (λ b. cond (cond (eqb kind 1) b (not b)) comb accumulate) plus_is

      over_is : step_over limit s d.size (outlined o l) ≡ over_at limit kind w.r (taken w)
      unfolding over_at
      over_is =
          ap₂ (λ x k. step_over limit x k (outlined o l)) sort_is size_is
          ∙ ap (step_over limit (sort_of kind w.r size) size) st.half

      pub turned : (x : Outlined) → OutlinedTaken limit s d.size (outlined o l) m x → Turned limit kind w m x
      unfolding divisors_due
      turned x a =
          record {
            over = sym over_is ∙ a.over;
            told = a.told;
            half = a.leaves ∙ ap₂ (λ x k. step_list x k (outlined o l)) sort_is size_is
                ∙ ap (step_list (sort_of kind w.r size) size) st.half
                ∙ step_kept kind w.r (taken w) still (divisor_in w.r (taken w) still).0;
            bounded = a.bounded;
            inside = a.inside;
            len = a.len ∙ l-length;
          }

      pub not-turned : OutlinedNotTaken limit s d.size (outlined o l) m → NotTurned limit kind w m
      not-turned a = record { over = sym over_is ∙ a.over; len = a.len ∙ l-length }
