-- A step that looks at each value: what it tells, whole or undone, and how large the magnitudes are then.
use Prim.Native.Nat.{ℕ, ◌≤◌, max}
use mathlib.Core.Path.{◌≡◌, sym, ◌∙◌, ap}
use mathlib.Core.Bool.{Bool, true, false, true≢false, not, cond}
use mathlib.Core.List.{List}
use native.Mathlib.Omega.{arith}
use lib.IntN.{ℤ}
use Rattle.definitions.specs.Steps.{Sort, entries, step_over, step_list}
use Rattle.step_laws.specs.Bound.{Bounded, stays_inside}
use Rattle.step_laws.specs.WorkingLimit.{over_more}
use Rattle.entry_steps.specs.Passes.{SteppedOrUndone}
use Rattle.bounded_steps.specs.Outcome.{Taken, NotTaken}

module _ {s : Sort} {d : ℕ} {l m : List ℤ} where
  -- whole under a limit w, and so under a larger one
  pub done : {w w' b : ℕ} {r : Bool} → SteppedOrUndone w s d l m r → r ≡ true → w ≤ w' → Bounded b (entries l)
      → Taken w' s d b l m (max b w)
  done {w} {w'} {b} {r} t e more h =
      record {
        over = over_more more s d l none;
        leaves = is;
        bounded = rw is (stays_inside (max b w) s d l (λ k. omega (arith, h k)) (over_more (omega arith) s d l none));
        inside = λ k. omega arith;
      }
    where
      none : step_over w s d l ≡ false
      none = t.over ∙ ap not e

      is : m ≡ step_list s d l
      is = t.leaves ∙ ap (λ x. cond x (step_list s d l) l) e

  -- undone
  pub undone : {w : ℕ} {r : Bool} → SteppedOrUndone w s d l m r → r ≡ false → NotTaken w s d l m
  undone t e = record { over = t.over ∙ ap not e; leaves = t.leaves ∙ ap (λ x. cond x (step_list s d l) l) e }

  -- where it is known that none passes the limit
  pub known : {w : ℕ} (r : Bool) → SteppedOrUndone w s d l m r → step_over w s d l ≡ false → m ≡ step_list s d l
  known true t none = t.leaves
  known false t none = absurd (true≢false (sym t.over ∙ none))
