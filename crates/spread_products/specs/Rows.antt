-- Rows added to a slice, modulo 2^64 and as far as it goes.
use Rattle.std.specs.Prelude.{◌≡◌, Bool, cond, List, length, ℤ}
use Rattle.definitions.specs.Integers.{⊖}
use Rattle.definitions.specs.Series.{Series, ◌+ˢ◌}
use Rattle.definitions.specs.Steps.{entries}
use Rattle.wrapped_sums.specs.Wrapped.{Like, AllFit}

-- y, or its negative
unfoldable pub signed : Bool → ℤ → ℤ
signed away y = cond away (⊖ y) y

-- m is l with s added
pub record Added (s : Series) (l m : List ℤ) : Type 0 where
  pub len : length m ≡ length l
  pub fit : AllFit l → AllFit m
  pub like : Like (length l) (entries m) (entries l +ˢ s)

-- m holds s
pub record Made (s : Series) (m : List ℤ) : Type 0 where
  pub fit : AllFit m
  pub like : Like (length m) (entries m) s
