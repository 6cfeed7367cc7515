-- What an input asks for, by its first line alone: a, a space and b, each number 1 to 9 digits as in the listing,
-- leading zeros allowed, and nothing else.
use Rattle.std.specs.Prelude.{ℕ, ◌+◌, Option, None, Some, Bool, cond, ◌&&◌, List, [], ◌∷◌, length, get_or, eqb}
use Rattle.text.specs.Text.{NEWLINE, SPACE}
use Rattle.digits.specs.Digits.{digits_at, number_at, one_to_nine}
use Rattle.census_lines.specs.declared.asked.Bounds.{Bounds}

-- the bytes before the first newline, or all where there is none
unfoldable pub first_line : List ℕ → List ℕ
first_line [] = []
first_line (x ∷ xs) = cond (eqb x NEWLINE) [] (x ∷ first_line xs)

-- a has the first p digits, b the q digits after them and a space
unfoldable pub is_good_with : List ℕ → (p q : ℕ) → Bool
is_good_with line p q =
    one_to_nine p && (eqb (get_or line p 0) SPACE && (one_to_nine q && eqb (length line) (1 + p + q)))

unfoldable pub place_of_b : List ℕ → ℕ
place_of_b line = 1 + digits_at line 0

unfoldable pub is_good : List ℕ → Bool
is_good line = is_good_with line (digits_at line 0) (digits_at line (place_of_b line))

-- the two bounds, and nothing where the line isn't good
unfoldable pub bounds_in : List ℕ → Option Bounds
bounds_in line = cond (is_good line) (Some (record { a = number_at line 0; b = number_at line (place_of_b line) })) None
