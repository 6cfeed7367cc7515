-- Digits in a line of bytes: how many stand at a place, and the number that they say.
use Rattle.std.specs.Prelude.{ℕ, ◌≡◌, ◌<◌, true, false, Option, None, Some, ◌+◌, ◌*◌, ◌-◌, Bool, cond, ◌&&◌, List, [], ◌∷◌, length, drop, leb}
use Rattle.text.specs.Text.{ZERO}

unfoldable pub between : ℕ → ℕ → ℕ → Bool
between low high x = leb low x && leb x high

abbrev pub is_digit : ℕ → Bool
is_digit b = between ZERO 57 b

-- the digits that a text starts with, and what digits say
unfoldable pub digits : List ℕ → List ℕ
digits [] = []
digits (b ∷ bs) = cond (is_digit b) (b ∷ digits bs) []

unfoldable pub value_from : ℕ → List ℕ → ℕ
value_from v [] = v
value_from v (b ∷ bs) = value_from (v * 10 + (b - ZERO)) bs

unfoldable pub value_of : List ℕ → ℕ
value_of ds = value_from 0 ds

-- how many digits stand at a place
unfoldable pub digits_at : List ℕ → ℕ → ℕ
digits_at line place = length (digits (drop place line))

unfoldable pub number_at : List ℕ → ℕ → ℕ
number_at line place = value_of (digits (drop place line))

abbrev pub one_to_nine : ℕ → Bool
one_to_nine count = between 1 9 count

-- what is read of a number at a place: nothing where its digits are not 1 to 9, and else how many they are and what they
-- say
abbrev pub IsNumber : List ℕ → ℕ → Option (ℕ × ℕ) → Type 0
IsNumber line place None = one_to_nine (digits_at line place) ≡ false
IsNumber line place (Some n) =
    (one_to_nine (digits_at line place) ≡ true)
    × (n.0 ≡ digits_at line place) × (n.1 ≡ number_at line place) × (n.1 < 1000000000)
