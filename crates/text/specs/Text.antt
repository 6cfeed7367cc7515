-- Numbers as text: decimal digits without leading zeros, a minus sign before a negative number, one space before each
-- item. Bytes are ASCII.
use Rattle.std.specs.Prelude.{ℕ, zero, suc, ◌+◌, ◌/◌, ◌%◌, cond, List, [], ◌∷◌, ◌++◌, ltb, ℤ, pos, negsuc, nat_abs}

abbrev pub NEWLINE : ℕ
NEWLINE = 10

abbrev pub SPACE : ℕ
SPACE = 32

abbrev pub MINUS : ℕ
MINUS = 45

abbrev pub ZERO : ℕ
ZERO = 48

abbrev pub COLON : ℕ
COLON = 58

abbrev pub QUERY : ℕ
QUERY = 63

-- the digits of n, where `turns` is at least their number
unfoldable pub decimal_in : ℕ → ℕ → List ℕ
decimal_in zero n = []
decimal_in (suc turns) n =
    let longer = decimal_in turns (n / 10) ++ ((ZERO + n % 10) ∷ []) in
    cond (ltb n 10) ((ZERO + n) ∷ []) longer

unfoldable pub decimal : ℕ → List ℕ
decimal n = decimal_in (suc n) n

-- a minus sign where the number is negative
unfoldable pub sign : ℤ → List ℕ
sign (pos n) = []
sign (negsuc n) = MINUS ∷ []

unfoldable pub signed : ℤ → List ℕ
signed c = sign c ++ decimal (nat_abs c)

-- each number with a space before it
unfoldable pub spaced : List ℤ → List ℕ
spaced [] = []
spaced (c ∷ cs) = SPACE ∷ signed c ++ spaced cs
