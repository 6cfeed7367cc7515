-- The four points, as floats and as whole numbers, and the value there in whole numbers. A reader of `Exact` believes
-- these.
use Rattle.std.specs.Prelude.{Bool, List, [], ◌∷◌, ℤ, pos, negsuc}
use Rattle.std.specs.Float.{fin}
use Rattle.definitions.specs.Integers.{◌⊕◌, ◌⊗◌, ◌⊝◌, 0ℤ, 1ℤ}
use Rattle.response.specs.declared.Point.{Point}
use Rattle.response.specs.Response.{1ᶠ, _1ᶠ}

-- 1, i, -1 and -i
pub data Quarter : Type 0 where
  one i minusOne minusI : Quarter

-- each with a zero of either sign, -0 where s is true
unfoldable pub point_at : Quarter → (s : Bool) → Point
point_at one s = record { real = 1ᶠ; imag = fin s 0 (pos 0) }
point_at i s = record { real = fin s 0 (pos 0); imag = 1ᶠ }
point_at minusOne s = record { real = _1ᶠ; imag = fin s 0 (pos 0) }
point_at minusI s = record { real = fin s 0 (pos 0); imag = _1ᶠ }

-- a whole number with its imaginary part
pub record Gauss : Type 0 where
  pub re : ℤ
  pub im : ℤ

unfoldable pub whole_at : Quarter → Gauss
whole_at one = record { re = 1ℤ; im = 0ℤ }
whole_at i = record { re = 0ℤ; im = 1ℤ }
whole_at minusOne = record { re = negsuc 0; im = 0ℤ }
whole_at minusI = record { re = 0ℤ; im = negsuc 0 }

-- one coefficient more: v z + c
unfoldable pub times_and : Gauss → Gauss → ℤ → Gauss
times_and v z c = record { re = v.re ⊗ z.re ⊝ v.im ⊗ z.im ⊕ c; im = v.re ⊗ z.im ⊕ v.im ⊗ z.re }

-- the value of some coefficients at z: the first, and z times the value of the others
unfoldable pub whole_value : List ℤ → Gauss → Gauss
whole_value [] z = record { re = 0ℤ; im = 0ℤ }
whole_value (c ∷ cs) z = times_and (whole_value cs z) z c
