-- What a step on entries of bounded magnitudes comes to.
use Rattle.std.specs.Prelude.{ℕ, ◌≤◌, ◌≡◌, true, false, List, ℤ, Result, MatchResult}
use Rattle.definitions.specs.Steps.{Sort, entries, step_over, step_list}
use Rattle.step_laws.specs.Bound.{Bounded}
use Rattle.bounded_steps.specs.declared.Over.{Over}

-- a step under the working limit w, of a list l of magnitudes at most b, that left m: taken, with the bound after it
pub record Taken (w : ℕ) (s : Sort) (d b : ℕ) (l m : List ℤ) (bound : ℕ) : Type 0 where
  pub over : step_over w s d l ≡ false
  pub leaves : m ≡ step_list s d l
  pub bounded : Bounded bound (entries m)
  pub inside : b ≤ w → bound ≤ w

-- not taken, since a value would pass w
pub record NotTaken (w : ℕ) (s : Sort) (d : ℕ) (l m : List ℤ) : Type 0 where
  pub over : step_over w s d l ≡ true
  pub leaves : m ≡ l

abbrev pub StepOutcomeIs : ℕ → Sort → ℕ → ℕ → List ℤ → List ℤ → Result ℕ Over → Type 0
StepOutcomeIs w s d b l m r = MatchResult r (Taken w s d b l m) (λ _. NotTaken w s d l m)
