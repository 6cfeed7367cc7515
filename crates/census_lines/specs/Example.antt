-- Inputs and what is printed for them, computed from the definitions: from bytes to bytes.
use Rattle.std.specs.Prelude.{◌≡◌, refl, [], ◌∷◌}
use Rattle.definitions.specs.Integers.{◌⊕◌, ◌⊗◌, ⊖}
use Rattle.definitions.specs.Series.{constant, ◌+ˢ◌, _ˢ, ◌·◌, ◌÷◌, z^, firsts}
use Rattle.definitions.specs.Numbers.{some_to, count_to, divides, share_factor, phi}
use Rattle.definitions.specs.Polynomials.{product_to, at_divisors, z^_1, family_to, F, I, polynomial, degree}
use Rattle.definitions.specs.Answer.{coefficients, height_of, height}
use Rattle.text.specs.Text.{decimal_in, decimal, sign, signed, spaced}
use Rattle.digits.specs.Digits.{between, digits, value_from, value_of, digits_at, number_at}
use Rattle.counting.specs.Census.{indices, from_to, with_height, tallest, row_of, rows_below, rows_of, census, good_range}
use Rattle.counting.specs.Census.{census_code}
use Rattle.census_lines.specs.Asked.{first_line, is_good_with, place_of_b, is_good, bounds_in}
use Rattle.census_lines.specs.Printed.{two_more, word, heading_of, row_line, row_lines, refusal, wrong, table}
use Rattle.census_lines.specs.Printed.{told, reply, reply_to, printed}

-- `1 6`, a newline and an `x` print `heights 1 6` and `1 1 6`; `007 9` prints `heights 7 9` and `1 7 3`
tables :
    (printed (49 ∷ 32 ∷ 54 ∷ 10 ∷ 120 ∷ [])
    ≡ 104 ∷ 101 ∷ 105 ∷ 103 ∷ 104 ∷ 116 ∷ 115 ∷ 32 ∷ 49 ∷ 32 ∷ 54 ∷ 10 ∷ 49 ∷ 32 ∷ 49 ∷ 32 ∷ 54 ∷ 10 ∷ [])
    × (printed (48 ∷ 48 ∷ 55 ∷ 32 ∷ 57 ∷ [])
    ≡ 104 ∷ 101 ∷ 105 ∷ 103 ∷ 104 ∷ 116 ∷ 115 ∷ 32 ∷ 55 ∷ 32 ∷ 57 ∷ 10 ∷ 49 ∷ 32 ∷ 55 ∷ 32 ∷ 51 ∷ 10 ∷ [])
unfolding printed reply_to reply told table row_lines row_line heading_of word two_more bounds_in is_good is_good_with place_of_b
    first_line census_code good_range census rows_of rows_below row_of tallest with_height from_to indices number_at digits_at
    value_of value_from digits between spaced signed sign decimal decimal_in height height_of coefficients degree polynomial
    F I family_to z^_1 at_divisors product_to phi share_factor divides count_to some_to firsts z^ ◌÷◌ ◌·◌ _ˢ ◌+ˢ◌ constant ⊖
    ◌⊗◌ ◌⊕◌
tables = (refl, refl)

-- `0 5` and `3 2` print `21`
refused : (printed (48 ∷ 32 ∷ 53 ∷ []) ≡ 50 ∷ 49 ∷ 10 ∷ []) × (printed (51 ∷ 32 ∷ 50 ∷ []) ≡ 50 ∷ 49 ∷ 10 ∷ [])
unfolding printed reply_to reply told refusal bounds_in is_good is_good_with place_of_b first_line census_code good_range number_at
    digits_at value_of value_from digits between decimal decimal_in
refused = (refl, refl)

-- nothing, `5`, `1  5`, `1 5 ` and `1 0000000005` print `?`
not_good :
    (printed [] ≡ 63 ∷ 10 ∷ []) × (printed (53 ∷ []) ≡ 63 ∷ 10 ∷ [])
    × (printed (49 ∷ 32 ∷ 32 ∷ 53 ∷ []) ≡ 63 ∷ 10 ∷ []) × (printed (49 ∷ 32 ∷ 53 ∷ 32 ∷ []) ≡ 63 ∷ 10 ∷ [])
    × (printed (49 ∷ 32 ∷ 48 ∷ 48 ∷ 48 ∷ 48 ∷ 48 ∷ 48 ∷ 48 ∷ 48 ∷ 48 ∷ 53 ∷ []) ≡ 63 ∷ 10 ∷ [])
unfolding printed reply_to wrong bounds_in is_good is_good_with place_of_b first_line number_at digits_at value_of
    value_from digits between
not_good = (refl, refl, refl, refl, refl)
