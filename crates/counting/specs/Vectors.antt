-- A census computed from the definitions: the worked ones of small indices, and each refusal at its edges.
use Rattle.std.specs.Prelude.{◌≡◌, refl, [], ◌∷◌}
use Rattle.definitions.specs.Codes.{DONE, SHORT, RANGE, ROWS}
use Rattle.definitions.specs.Integers.{◌⊕◌, ⊖, ◌⊗◌}
use Rattle.definitions.specs.Numbers.{some_to, count_to, divides, share_factor, phi}
use Rattle.definitions.specs.Series.{constant, ◌+ˢ◌, _ˢ, ◌·◌, ◌÷◌, z^, firsts}
use Rattle.definitions.specs.Polynomials.{product_to, at_divisors, z^_1, family_to, F, I, polynomial, degree}
use Rattle.definitions.specs.Answer.{coefficients, height_of, height}
use Rattle.counting.specs.Census.{indices, from_to, with_height, tallest, row_of, rows_below, rows_of, census}
use Rattle.counting.specs.Census.{good_range, census_code}

-- every height up to 6 is 1: the row 1 1 6; from 5 to 6 it is 1 5 2
counted : (census 1 6 ≡ 1 ∷ 1 ∷ 6 ∷ []) × (census 5 6 ≡ 1 ∷ 5 ∷ 2 ∷ []) × (census 4 4 ≡ 1 ∷ 4 ∷ 1 ∷ [])
unfolding census rows_of rows_below row_of tallest with_height from_to indices height height_of coefficients firsts polynomial
    F I family_to product_to at_divisors z^_1 z^ constant ◌+ˢ◌ _ˢ ◌·◌ ◌÷◌ ◌⊕◌ ⊖ ◌⊗◌ degree phi count_to share_factor some_to
    divides
counted = (refl, refl, refl)

-- bounds and rooms: RANGE before SHORT before ROWS
codes :
    (census_code 0 6 3 4096 ≡ RANGE) × (census_code 6 5 3 4096 ≡ RANGE) × (census_code 1 4096 0 0 ≡ RANGE)
    × (census_code 1 6 0 4095 ≡ SHORT) × (census_code 1 6 2 4096 ≡ ROWS) × (census_code 1 6 3 4096 ≡ DONE)
unfolding census_code good_range census rows_of rows_below row_of tallest with_height from_to indices height height_of
    coefficients firsts polynomial F I family_to product_to at_divisors z^_1 z^ constant ◌+ˢ◌ _ˢ ◌·◌ ◌÷◌ ◌⊕◌ ⊖ ◌⊗◌ degree
    phi count_to share_factor some_to divides
codes = (refl, refl, refl, refl, refl, refl)
