-- What a step on outlined entries asks, and what it comes to.
use Rattle.std.specs.Prelude.{ℕ, ◌≤◌, ◌≡◌, true, false, List, length, ℤ, Result, MatchResult}
use Rattle.definitions.specs.Steps.{Sort, entries, step_over, step_list}
use Rattle.step_laws.specs.Bound.{Bounded}
use Rattle.step_laws.specs.WorkingLimit.{Workable}
use Rattle.outlined_steps.specs.Outlines.{Told, outlined}
use Rattle.outlined_steps.specs.declared.Outline.{Outline}
use Rattle.outlined_steps.specs.declared.Outlined.{Outlined}
pub use Rattle.bounded_steps.specs.declared.Over.{Over}

-- o tells the entries in l, whose magnitudes are within b and so within the working limit w, and d is a size
pub record StepDue (w b d : ℕ) (o : Outline) (l : List ℤ) : Type 0 where
  pub told : Told o l
  pub size : 1 ≤ d
  pub bounded : Bounded b (entries (outlined o l))
  pub inside : b ≤ w
  pub good : Workable w

-- a step under the working limit w on the entries l, of which m tells what it left: taken, with what it leaves
pub record OutlinedTaken (w : ℕ) (s : Sort) (d : ℕ) (l m : List ℤ) (r : Outlined) : Type 0 where
  pub over : step_over w s d l ≡ false
  pub told : Told r.outline m
  pub leaves : outlined r.outline m ≡ step_list s d l
  pub bounded : Bounded r.bound (entries (outlined r.outline m))
  pub inside : r.bound ≤ w
  pub len : length m ≡ length l

-- not taken, since a value would pass w
pub record OutlinedNotTaken (w : ℕ) (s : Sort) (d : ℕ) (l m : List ℤ) : Type 0 where
  pub over : step_over w s d l ≡ true
  pub len : length m ≡ length l

abbrev pub OutlinedOutcomeIs : ℕ → Sort → ℕ → List ℤ → List ℤ → Result Outlined Over → Type 0
OutlinedOutcomeIs w s d l m r = MatchResult r (OutlinedTaken w s d l m) (λ _. OutlinedNotTaken w s d l m)
