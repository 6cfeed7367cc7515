-- A division by z^m - 1 modulo 2^64, and one that has got to some place.
use Rattle.std.specs.Prelude.{ℕ, List, length, ℤ}
use Rattle.definitions.specs.Series.{Series, ◌÷◌, firsts}
use Rattle.definitions.specs.Polynomials.{z^_1}
use Rattle.definitions.specs.Steps.{entries}
use Rattle.wrapped_sums.specs.Wrapped.{wrap}

unfoldable pub quotient : ℕ → Series → Series
quotient m f i = wrap ((f ÷ z^_1 m) i)

unfoldable pub quotient_list : ℕ → List ℤ → List ℤ
quotient_list m l = firsts (length l) (quotient m (entries l))
