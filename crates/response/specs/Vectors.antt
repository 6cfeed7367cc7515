-- Responses computed from the definitions.
use Rattle.std.specs.Prelude.{ℕ, ◌≡◌, refl, true, false, [], ◌∷◌, pos, negsuc, Float}
use Rattle.std.specs.Float.{nan, fin}
use Rattle.std.specs.Float.Ieee.{add, sub, mul, neg, lt, le, eq, of_int}
use Rattle.definitions.specs.Codes.{DONE, POINT, COARSE}
use Rattle.response.specs.declared.Point.{Point}
use Rattle.response.specs.declared.Value.{Value}
use Rattle.response.specs.Response.{0ᶠ, 1ᶠ, _1ᶠ, next_at, value_at, is_within, is_inside, is_coarse, some_coarse}
use Rattle.response.specs.Response.{code, answered, answer}

at : Float → Float → Point
at x y = record { real = x; imag = y }

value : Float → Float → Value
value x y = record { code = DONE; real = x; imag = y }

refused : ℕ → Value
refused c = record { code = c; real = 0ᶠ; imag = 0ᶠ }

-- -0, a half, a quarter below 0, and the next number above 1
abbrev _0ᶠ : Float
_0ᶠ = fin true 0 (pos 0)

abbrev half : Float
half = fin false 1 (negsuc 0)

abbrev low : Float
low = fin true 1 (negsuc 1)

abbrev above : Float
above = fin false 4503599627370497 (negsuc 51)

-- 1 + 2 z + 3 z^2 at 1/2 - i/4 is 41/16 - 5/4 i; F(4) at -i has -0 as its imaginary part; and 2^53 + 1 is a tie, which
-- goes to the even number
values :
    (answer (pos 1 ∷ pos 2 ∷ pos 3 ∷ []) (at half low) ≡ value (fin false 41 (negsuc 3)) (fin true 5 (negsuc 1)))
    × (answer (pos 1 ∷ pos 0 ∷ pos 1 ∷ []) (at 0ᶠ _1ᶠ) ≡ value 0ᶠ _0ᶠ)
    × (answer (pos 1 ∷ pos 9007199254740992 ∷ []) (at 1ᶠ 0ᶠ) ≡ value (fin false 1 (pos 53)) 0ᶠ)
    × (answer [] (at _0ᶠ 1ᶠ) ≡ value 0ᶠ 0ᶠ)
unfolding at value answer answered code is_inside is_within some_coarse is_coarse value_at next_at add sub mul neg lt le eq
    of_int
values = (refl, refl, refl, refl)

-- above 1, not a number, both, and a coefficient of 2^53 + 1 and of -2^63
refusals :
    (answer [] (at above 0ᶠ) ≡ refused POINT) × (answer [] (at 0ᶠ nan) ≡ refused POINT)
    × (answer (pos 9007199254740993 ∷ []) (at nan 0ᶠ) ≡ refused POINT)
    × (answer (pos 9007199254740993 ∷ []) (at 1ᶠ _1ᶠ) ≡ refused COARSE)
    × (answer (pos 1 ∷ negsuc 9223372036854775807 ∷ []) (at 0ᶠ 0ᶠ) ≡ refused COARSE)
unfolding at refused answer answered code is_inside is_within some_coarse is_coarse value_at next_at lt le eq
refusals = (refl, refl, refl, refl, refl)
