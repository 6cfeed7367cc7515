-- The response at a point (docs/RULES.md, 'The response at a point'), in the library's account of IEEE 754: each
-- operation is rounded once, and there is one not-a-number, whose bits are no part of it.
use Rattle.std.specs.Prelude.{ℕ, ◌^◌, Bool, true, false, cond, not, ◌&&◌, ◌||◌, List, [], ◌∷◌, eqb, ltb, ℤ, pos, nat_abs, Float}
use Rattle.std.specs.Float.{fin, binary64}
use Rattle.std.specs.Float.Ieee.{add, sub, mul, le, of_int}
use Rattle.definitions.specs.Codes.{DONE, POINT, COARSE}
use Rattle.response.specs.declared.Point.{Point}
use Rattle.response.specs.declared.Value.{Value}

-- 0, 1 and -1
abbrev pub 0ᶠ : Float
0ᶠ = fin false 0 (pos 0)

abbrev pub 1ᶠ : Float
1ᶠ = fin false 1 (pos 0)

abbrev pub _1ᶠ : Float
_1ᶠ = fin true 1 (pos 0)

-- new real = (real*x - imag*y) + c, new imag = real*y + imag*x
unfoldable pub next_at : Point → Point → ℤ → Point
next_at v at c =
    record {
      real = add binary64 (sub binary64 (mul binary64 v.real at.real) (mul binary64 v.imag at.imag))
          (of_int binary64 c);
      imag = add binary64 (mul binary64 v.real at.imag) (mul binary64 v.imag at.real);
    }

-- starting from zero
abbrev pub origin : Point
origin = record { real = 0ᶠ; imag = 0ᶠ }

-- from the highest coefficient down: those above one come before it
unfoldable pub value_at : List ℤ → Point → Point
value_at [] at = origin
value_at (c ∷ cs) at = next_at (value_at cs at) at c

-- a part of a point that is from -1 to 1; not-a-number isn't
unfoldable pub is_within : Float → Bool
is_within x = le _1ᶠ x && le x 1ᶠ

unfoldable pub is_inside : Point → Bool
is_inside at = is_within at.real && is_within at.imag

-- a coefficient whose magnitude is above 2^53, and some such among all
unfoldable pub is_coarse : ℤ → Bool
is_coarse c = ltb (2 ^ 53) (nat_abs c)

unfoldable pub some_coarse : List ℤ → Bool
some_coarse [] = false
some_coarse (c ∷ cs) = is_coarse c || some_coarse cs

-- the refusals in their order: POINT, COARSE
unfoldable pub code : List ℤ → Point → ℕ
code cs at = cond (not (is_inside at)) POINT (cond (some_coarse cs) COARSE DONE)

-- the answer for a code: the value on code 0 alone, and else 0 and 0
unfoldable pub answered : List ℤ → Point → ℕ → Value
answered cs at code =
    record {
      code = code;
      real = cond (eqb code DONE) (value_at cs at).real 0ᶠ;
      imag = cond (eqb code DONE) (value_at cs at).imag 0ᶠ;
    }

unfoldable pub answer : List ℤ → Point → Value
answer cs at = answered cs at (code cs at)
