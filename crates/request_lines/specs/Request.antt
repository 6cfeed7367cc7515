-- A line is good where it is F or I, a space, n, a space and h, each number 1 to 9 digits, leading zeros allowed, and
-- nothing else. A line is its bytes, without the newline.
use Rattle.std.specs.Prelude.{ℕ, ◌+◌, ◌≡◌, Option, None, Some, Bool, true, false, cond, ◌&&◌, List, length, get_or, eqb}
use Rattle.definitions.specs.Requests.{known_kind}
use Rattle.text.specs.Text.{SPACE}
use Rattle.digits.specs.Digits.{digits_at, number_at, one_to_nine}
use Rattle.request_lines.specs.declared.Request.{Request}

-- F is kind 1, I is kind 2, and no other letter has one
unfoldable pub kind_of : ℕ → ℕ
kind_of letter = cond (eqb letter 70) 1 (cond (eqb letter 73) 2 0)

-- what is told of a letter: its kind, and nothing where it has none
abbrev pub IsKind : ℕ → Option ℕ → Type 0
IsKind letter None = known_kind (kind_of letter) ≡ false
IsKind letter (Some kind) = (known_kind (kind_of letter) ≡ true) × (kind ≡ kind_of letter)

-- n stands at place 2, with so many digits; h stands after it and a space, with so many digits
unfoldable pub is_good_with : List ℕ → ℕ → ℕ → Bool
is_good_with line a b =
    known_kind (kind_of (get_or line 0 0))
    && (eqb (get_or line 1 0) SPACE
    && (one_to_nine a && (eqb (get_or line (2 + a) 0) SPACE && (one_to_nine b && eqb (length line) (3 + a + b)))))

unfoldable pub place_of_limit : List ℕ → ℕ
place_of_limit line = 3 + digits_at line 2

unfoldable pub is_good : List ℕ → Bool
is_good line = is_good_with line (digits_at line 2) (digits_at line (place_of_limit line))

-- what a good line asks for, and nothing where it isn't good
unfoldable pub read_line : List ℕ → Option Request
read_line line =
    cond (is_good line)
    (Some (record { kind = kind_of (get_or line 0 0); n = number_at line 2; h = number_at line (place_of_limit line) }))
    None
