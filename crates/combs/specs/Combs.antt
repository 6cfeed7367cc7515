-- A comb that has got down to some place: from there on stand the new values, below it the old entries.
use Rattle.std.specs.Prelude.{ℕ, ◌<◌, ◌≤◌, true, ◌≡◌, List, length, ℤ}
use Rattle.definitions.specs.Steps.{comb, stepped, in_range, entries}
use Rattle.entry_steps.specs.Passes.{Fit, Split}

-- the comb of size d got down to the place i of l, which left m
pub record CombedTo (d : ℕ) (l m : List ℤ) (i : ℕ) : Type 0 where
  pub from : d ≤ i
  pub most : i ≤ length l
  pub split : Split m (length l) i (entries l) (stepped comb d (entries l))

-- a comb that has got so far, each old entry, which was read, fits, so that it can be put back
pub record ReadTo (d : ℕ) (l m : List ℤ) (i : ℕ) : Type 0 where
  pub done : CombedTo d l m i
  pub fit : Fit i (length l) (entries l)

-- a tested one: each new value is within w
pub record TestedTo (w d : ℕ) (l m : List ℤ) (i : ℕ) : Type 0 where
  pub read : ReadTo d l m i
  pub inside : (k : ℕ) → i ≤ k → k < length l → in_range w (stepped comb d (entries l) k) ≡ true

-- m is what such a comb left of some list
pub record Undoable (d : ℕ) (m : List ℤ) (i : ℕ) : Type 0 where
  pub before : List ℤ
  pub read : ReadTo d before m i
