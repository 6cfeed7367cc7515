-- How a record holds a number: w bytes, little-endian; a coefficient in two's complement; and the width of a list of
-- coefficients (docs/RULES.md, 'The record').
use Rattle.std.specs.Prelude.{ℕ, zero, suc, ◌+◌, ◌*◌, ◌-◌, ◌/◌, ◌%◌, ◌^◌, Bool, false, cond, ◌||◌, List, [], ◌∷◌, ◌++◌, take, drop, ℤ, pos, negsuc, leb, eqb}
use Rattle.definitions.specs.Answer.{height_of}

-- v in w bytes, and the number that some bytes hold
unfoldable pub bytes_of : ℕ → ℕ → List ℕ
bytes_of zero v = []
bytes_of (suc w) v = v % 256 ∷ bytes_of w (v / 256)

unfoldable pub number : List ℕ → ℕ
number [] = 0
number (b ∷ bs) = b + 256 * number bs

-- the largest height that w bytes take
unfoldable pub top : ℕ → ℕ
top w = 2 ^ (8 * w - 1) - 1

-- two's complement in w bytes, and the number that it stands for
unfoldable pub twos : ℕ → ℤ → ℕ
twos w (pos n) = n
twos w (negsuc n) = 2 ^ (8 * w) - suc n

unfoldable pub signed_of : ℕ → ℕ → ℤ
signed_of w v = cond (leb v (top w)) (pos v) (negsuc (2 ^ (8 * w) - suc v))

-- each coefficient in w bytes, and the k coefficients that stand so at the start of some bytes
unfoldable pub body : ℕ → List ℤ → List ℕ
body w [] = []
body w (c ∷ cs) = bytes_of w (twos w c) ++ body w cs

unfoldable pub coefficients_at : ℕ → ℕ → List ℕ → List ℤ
coefficients_at w zero bs = []
coefficients_at w (suc k) bs = signed_of w (number (take w bs)) ∷ coefficients_at w k (drop w bs)

-- the widths; the least of some widths that takes a height, 0 where none does
abbrev pub widths : List ℕ
widths = 1 ∷ 2 ∷ 4 ∷ 8 ∷ []

unfoldable pub one_of : List ℕ → ℕ → Bool
one_of [] v = false
one_of (w ∷ ws) v = eqb v w || one_of ws v

unfoldable pub least_of : List ℕ → ℕ → ℕ
least_of [] h = 0
least_of (w ∷ ws) h = cond (leb h (top w)) w (least_of ws h)

-- the width of some coefficients: -128 needs 2, and -2^63 has none
unfoldable pub width : List ℤ → ℕ
width cs = least_of widths (height_of cs)
