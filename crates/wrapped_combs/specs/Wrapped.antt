-- What a step leaves that wraps, and a step that has got to some place.
use Rattle.std.specs.Prelude.{ℕ, ◌≤◌, cond, List, ltb, length, ℤ}
use Rattle.definitions.specs.Series.{Series, firsts}
use Rattle.definitions.specs.Steps.{Sort, comb, stepped, entries}
use Rattle.entry_steps.specs.Passes.{new_entry, Split}
use Rattle.wrapped_sums.specs.Wrapped.{wrap}

-- what is stored at the place i of a list
abbrev pub wrap_entry : Sort → ℕ → List ℤ → ℕ → ℤ
wrap_entry s d l i = wrap (new_entry s d l i)

-- what a step leaves modulo 2^64: below d an entry stays, from d on stands what its value wraps to
unfoldable pub wrapped_step : Sort → ℕ → Series → Series
wrapped_step s d f i = cond (ltb i d) (f i) (wrap (stepped s d f i))

unfoldable pub wrapped_list : Sort → ℕ → List ℤ → List ℤ
wrapped_list s d l = firsts (length l) (wrapped_step s d (entries l))

-- a comb of size d on l that has got down to the place i, and left m
pub record DownTo (d : ℕ) (l m : List ℤ) (i : ℕ) : Type 0 where
  pub from : d ≤ i
  pub most : i ≤ length l
  pub split : Split m (length l) i (entries l) (wrapped_step comb d (entries l))

-- m is what such a comb left of some list
pub record Downward (d : ℕ) (m : List ℤ) (i : ℕ) : Type 0 where
  pub before : List ℤ
  pub done : DownTo d before m i
