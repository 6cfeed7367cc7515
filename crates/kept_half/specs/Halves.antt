-- How the kept half comes about, as the inner functions' contracts tell it.
use Rattle.std.specs.Prelude.{ℕ, ◌+◌, ◌-◌, ◌≤◌, ◌≡◌, true, false, ◌≢◌, List, length, ℤ, Result, MatchResult}
use Rattle.definitions.specs.Steps.{entries}
use Rattle.definitions.specs.KeptHalf.{half_degree, kept_half, additions_after}
use Rattle.definitions.specs.Numbers.{r_of}
use Rattle.definitions.specs.Requests.{known_kind, good_index, divisors_due, over_among, zeros}
use Rattle.numbers.specs.Apart.{OddSquarefree}
use Rattle.step_laws.specs.Bound.{Bounded}
use Rattle.step_laws.specs.WorkingLimit.{Workable}
use Rattle.index.specs.Parts.{parts_of}
use Rattle.index.specs.declared.Parts.{Parts}
use Rattle.divisors.specs.Walks.{Stands, taken, walk_at}
use Rattle.divisors.specs.declared.Walk.{Walk}
use Rattle.outlined_steps.specs.Outlines.{Told, outlined}
use Rattle.outlined_steps.specs.declared.Outline.{Outline}
pub use Rattle.outlined_steps.specs.Outcome.{Over}
use Rattle.kept_half.specs.declared.Ran.{Ran}

-- the walk over r's divisors stands at some place, and o tells in l the kept half there, of magnitudes within the
-- bound, which is within the working limit
pub record KeptHalfAt (limit kind : ℕ) (w : Walk) (bound : ℕ) (o : Outline) (l : List ℤ) : Type 0 where
  pub walk : Stands w
  pub above : w.r ≢ 1
  pub told : Told o l
  pub half : outlined o l ≡ kept_half kind w.r (taken w)
  pub bounded : Bounded bound (entries (outlined o l))
  pub inside : bound ≤ limit
  pub good : Workable limit

-- the first j steps were taken, and left m
pub record RunTaken (limit kind r j : ℕ) (m : List ℤ) (h : Ran) : Type 0 where
  pub over : over_among limit kind r j ≡ false
  pub half : m ≡ kept_half kind r j
  pub inside : Bounded limit (entries m)
  pub bounded : Bounded h.bound (entries m)
  pub additions : h.additions ≡ additions_after kind r j
  pub due : h.due ≡ divisors_due r - j
  pub len : length m ≡ half_degree kind r + 1

-- one of them was not, since a value would pass the limit
pub record RunNotTaken (limit kind r j : ℕ) (m : List ℤ) : Type 0 where
  pub over : over_among limit kind r j ≡ true
  pub len : length m ≡ half_degree kind r + 1

abbrev pub RunOutcomeIs : ℕ → ℕ → ℕ → ℕ → List ℤ → Result Ran Over → Type 0
RunOutcomeIs limit kind r j m h = MatchResult h (RunTaken limit kind r j m) (λ _. RunNotTaken limit kind r j m)

-- n is good and taken apart, and its r has divisors
pub record StepsDue (kind n : ℕ) (x : Parts) : Type 0 where
  pub parts : x ≡ parts_of n
  pub known : known_kind kind ≡ true
  pub good : good_index n ≡ true
  pub above : r_of n ≢ 1

-- a walk that has taken nothing yet
pub record WalkAtStart (w : Walk) : Type 0 where
  pub squarefree : OddSquarefree w.r
  pub small : w.r ≤ 65535
  pub above : w.r ≢ 1
  pub here : w ≡ walk_at w.r 0

-- zeros, where a value would pass the limit
pub record Zeroed (limit kind r j : ℕ) (m : List ℤ) : Type 0 where
  pub ran : RunNotTaken limit kind r j m
  pub zeroed : m ≡ zeros (half_degree kind r + 1)

-- the kept half after j divisors, or zeros
abbrev pub KeptHalfIs : ℕ → ℕ → ℕ → ℕ → List ℤ → Result Ran Over → Type 0
KeptHalfIs limit kind r j m h = MatchResult h (RunTaken limit kind r j m) (λ _. Zeroed limit kind r j m)
