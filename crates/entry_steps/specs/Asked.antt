-- What each way to test asks of that on which it is used: where nothing is tested, that no value passes the working
-- limit w; where only the value is, that it can be taken; else nothing.
use Rattle.std.specs.Prelude.{ℕ, ◌-◌, ◌≤◌, true, false, ◌≡◌, List, get_or, ℤ, nat_abs}
use Rattle.definitions.specs.Integers.{0ℤ}
use Rattle.definitions.specs.Steps.{Sort, in_range, step_over}
use Rattle.entry_steps.specs.Passes.{addable, new_value, Narrow}

-- the ways: the types `Known`, `Narrow` and `Wide` of `entry_steps`
pub data Way : Type 0 where
  known narrow wide : Way

-- of an entry x and the one y that stands d before it
abbrev pub Asked : Way → ℕ → Sort → ℤ → ℤ → Type 0
Asked known w s x y = in_range w (new_value s x y) ≡ true
Asked narrow w s x y = (nat_abs x ≤ addable) × (nat_abs y ≤ addable)
Asked wide w s x y = Unit {0}

-- of the place i of a list
abbrev pub AskedAt : Way → ℕ → Sort → ℕ → List ℤ → ℕ → Type 0
AskedAt t w s d l i = Asked t w s (get_or l i 0ℤ) (get_or l (i - d) 0ℤ)

-- of a whole step
abbrev pub AskedOfStep : Way → ℕ → Sort → ℕ → List ℤ → Type 0
AskedOfStep known w s d l = step_over w s d l ≡ false
AskedOfStep narrow w s d l = Narrow w l
AskedOfStep wide w s d l = Unit {0}
