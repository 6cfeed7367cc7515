-- An accumulate modulo 2^64 that has got up to some place.
use Rattle.std.specs.Prelude.{ℕ, ◌≤◌, List, length, ℤ}
use Rattle.definitions.specs.Steps.{accumulate, entries}
use Rattle.entry_steps.specs.Passes.{Split}
use Rattle.wrapped_combs.specs.Wrapped.{wrapped_step}

-- an accumulate of size d on l that has got up to the place i, and left m
pub record UpTo (d : ℕ) (l m : List ℤ) (i : ℕ) : Type 0 where
  pub from : d ≤ i
  pub most : i ≤ length l
  pub split : Split m (length l) i (wrapped_step accumulate d (entries l)) (entries l)

-- m is what such an accumulate left of some list
pub record Upward (d : ℕ) (m : List ℤ) (i : ℕ) : Type 0 where
  pub before : List ℤ
  pub done : UpTo d before m i
