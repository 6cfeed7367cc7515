-- Height, peak and gain (docs/RULES.md, 'The polynomial request').
use Rattle.std.specs.Prelude.{ℕ, suc, max, cond, List, [], ◌∷◌, eqb, ℤ, nat_abs}
use Rattle.definitions.specs.Integers.{◌⊕◌, 0ℤ}
use Rattle.definitions.specs.Series.{firsts}
use Rattle.definitions.specs.Numbers.{r_of}
use Rattle.definitions.specs.Polynomials.{polynomial, degree}
use Rattle.definitions.specs.KeptHalf.{additions}

-- the coefficients 0 to degree
unfoldable pub coefficients : ℕ → ℕ → List ℤ
coefficients kind n = firsts (suc (degree kind n)) (polynomial kind n)

-- the largest magnitude among the coefficients
unfoldable pub height_of : List ℤ → ℕ
height_of [] = 0
height_of (c ∷ cs) = max (nat_abs c) (height_of cs)

unfoldable pub height : ℕ → ℕ → ℕ
height kind n = height_of (coefficients kind n)

-- the lowest degree at which a magnitude occurs, among coefficients where it does
unfoldable pub place_of : ℕ → List ℤ → ℕ
place_of h [] = 0
place_of h (c ∷ cs) = cond (eqb (nat_abs c) h) 0 (suc (place_of h cs))

-- the lowest degree at which the height's magnitude occurs
unfoldable pub peak_of : List ℤ → ℕ
peak_of cs = place_of (height_of cs) cs

unfoldable pub peak : ℕ → ℕ → ℕ
peak kind n = peak_of (coefficients kind n)

-- the sum of the coefficients
unfoldable pub gain_of : List ℤ → ℤ
gain_of [] = 0ℤ
gain_of (c ∷ cs) = c ⊕ gain_of cs

unfoldable pub gain : ℕ → ℕ → ℤ
gain kind n = gain_of (coefficients kind n)

-- the additions reported for an index: those for its r
unfoldable pub additions_for : ℕ → ℕ → ℕ
additions_for kind n = additions kind (r_of n)
