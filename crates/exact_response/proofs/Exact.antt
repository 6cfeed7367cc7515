-- Where the magnitudes of the coefficients add up to at most 2^53, the response at 1, i, -1 and -i is delivered and
-- compares equal to the whole-number value (`response_exact`), which is no larger than that (`value_small`), so that
-- none is lost when it is made an f64. One invariant for the four points (`value_holds`): both parts hold whole numbers
-- whose magnitudes add up to no more than those of the coefficients so far. For with z = p + q i and |p| + |q| at most
-- 1 all that is met on the way is no larger.
use Rattle.std.specs.Prelude.{◌≡◌, Bool, true, false, ℕ, zero, suc, ◌+◌, ◌*◌, ◌≤◌, T, ℤ, pos, nat_abs}
use Rattle.std.proofs.Math.Path.{refl}
use Rattle.std.proofs.Common.{ap}
use mathlib.Core.List.{List, [], ◌∷◌}
use native.Mathlib.Omega.{arith}
use Rattle.std.specs.Float.Ieee.{Float, binary64, sub, mul, of_int, in_float, le, lt, eq}
use Rattle.std.specs.Float.{fin}
use Rattle.definitions.specs.Integers.{◌⊗◌, ⊖, ◌⊝◌, 0ℤ}
use Rattle.step_laws.specs.Signed.{abs_⊕, abs_⊝}
use Rattle.light_sums.specs.Weight.{weight, abs_⊗}
use Rattle.whole_floats.specs.Holds.{most, signed, Holds, holds_of_int, holds_add, holds_sub, holds_mul, holds_eq}
use Rattle.response.specs.declared.Point.{Point}
use Rattle.response.specs.Response.{0ᶠ, next_at, value_at, is_within, is_inside, some_coarse}
use Rattle.response.specs.Laws.{fine_small, fine_exact, delivered}
use Rattle.exact_response.specs.Points.{Quarter, one, i, minusOne, minusI, point_at}
use Rattle.exact_response.specs.Points.{Gauss, whole_at, times_and, whole_value}
use Rattle.exact_response.specs.Exact.{HoldsBoth, span, ExactAt}

-- (a + b) (p + q) is no larger than a + b, and so is each part of it
turned : (a b p q : ℕ) → p + q ≤ 1 → a * p + b * q + (a * q + b * p) ≤ a + b
turned a b zero zero h = omega arith
turned a b zero (suc zero) h = omega arith
turned a b (suc zero) zero h = omega arith
turned a b zero (suc (suc q)) h = absurd (omega arith)
turned a b (suc zero) (suc q) h = absurd (omega arith)
turned a b (suc (suc p)) q h = absurd (omega arith)

module _ (w z : Gauss) (c : ℤ) (u : span z ≤ 1) where
  abbrev rr : ℤ
  rr = w.re ⊗ z.re

  abbrev ii : ℤ
  ii = w.im ⊗ z.im

  abbrev ri : ℤ
  ri = w.re ⊗ z.im

  abbrev ir : ℤ
  ir = w.im ⊗ z.re

  -- what is met on the way from w to w z + c
  met : nat_abs rr + nat_abs ii + (nat_abs ri + nat_abs ir) ≤ span w
  met =
      rw (abs_⊗ w.re z.re, abs_⊗ w.im z.im, abs_⊗ w.re z.im, abs_⊗ w.im z.re)
      (turned (nat_abs w.re) (nat_abs w.im) (nat_abs z.re) (nat_abs z.im) u)

  next_small : span (times_and w z c) ≤ span w + nat_abs c
  unfolding times_and
  next_small = omega (arith, met, abs_⊕ (rr ⊝ ii) c, abs_⊝ rr ii, abs_⊕ ri ir)

  module _ (v at : Point) (fits : span w + nat_abs c ≤ most) where
    next_holds : HoldsBoth v w → HoldsBoth at z → HoldsBoth (next_at v at c) (times_and w z c)
    unfolding times_and next_at
    next_holds hv hz =
        record {
          real = holds_add (sub binary64 vx vy) (of_int binary64 c) (rr ⊝ ii) c
              (holds_sub vx vy rr ii
              (holds_mul v.real at.real w.re z.re hv.real hz.real (omega (arith, met)))
              (holds_mul v.imag at.imag w.im z.im hv.imag hz.imag (omega (arith, met)))
              (omega (arith, met, abs_⊝ rr ii)))
              (holds_of_int c (omega arith))
              (omega (arith, met, abs_⊝ rr ii, abs_⊕ (rr ⊝ ii) c));
          imag = holds_add (mul binary64 v.real at.imag) (mul binary64 v.imag at.real) ri ir
              (holds_mul v.real at.imag w.re z.im hv.real hz.imag (omega (arith, met)))
              (holds_mul v.imag at.real w.im z.re hv.imag hz.real (omega (arith, met)))
              (omega (arith, met, abs_⊕ ri ir));
        }
      where
        vx : Float
        vx = mul binary64 v.real at.real

        vy : Float
        vy = mul binary64 v.imag at.imag

-- ---- the invariant, from the last coefficient to the first
module _ (z : Gauss) (u : span z ≤ 1) where
  pub value_small : (cs : List ℤ) → span (whole_value cs z) ≤ weight cs
  unfolding whole_value weight
  value_small [] = omega arith
  value_small (c ∷ cs) = omega (arith, next_small (whole_value cs z) z c u, value_small cs)

  pub value_holds : (at : Point) → HoldsBoth at z → (cs : List ℤ) → weight cs ≤ most
      → HoldsBoth (value_at cs at) (whole_value cs z)
  unfolding value_at whole_value weight signed ⊖
  value_holds at here [] l = record { real = (0, refl, refl); imag = (0, refl, refl) }
  value_holds at here (c ∷ cs) l =
      next_holds (whole_value cs z) z c u (value_at cs at) at (omega (arith, value_small cs))
      (value_holds at here cs (omega arith)) here

-- ---- the four points, with a zero of either sign
zero_holds : (s : Bool) → Holds (fin s 0 (pos 0)) 0ℤ
unfolding signed ⊖
zero_holds false = (0, refl, refl)
zero_holds true = (0, refl, refl)

unit_holds : (q : Quarter) (s : Bool) → HoldsBoth (point_at q s) (whole_at q)
unfolding point_at whole_at signed ⊖
unit_holds one s = record { real = (1, refl, refl); imag = zero_holds s }
unit_holds i s = record { real = zero_holds s; imag = (1, refl, refl) }
unit_holds minusOne s = record { real = (1, refl, refl); imag = zero_holds s }
unit_holds minusI s = record { real = zero_holds s; imag = (1, refl, refl) }

unit_small : (q : Quarter) → span (whole_at q) ≤ 1
unfolding whole_at
unit_small one = omega arith
unit_small i = omega arith
unit_small minusOne = omega arith
unit_small minusI = omega arith

zero_within : (s : Bool) → is_within (fin s 0 (pos 0)) ≡ true
unfolding is_within le lt eq
zero_within false = refl
zero_within true = refl

unit_inside : (q : Quarter) (s : Bool) → is_inside (point_at q s) ≡ true
unfolding point_at is_inside is_within le lt eq
unit_inside one s = zero_within s
unit_inside i s = rw (zero_within s) refl
unit_inside minusOne s = zero_within s
unit_inside minusI s = rw (zero_within s) refl

fine : (cs : List ℤ) → weight cs ≤ most → some_coarse cs ≡ false
unfolding weight some_coarse
fine [] l = refl
fine (c ∷ cs) l = rw (fine_small c (omega arith)) (fine cs (omega arith))

exactly : (a : ℤ) → nat_abs a ≤ most → T (in_float binary64 a)
exactly a l = fine_exact a (fine_small a l)

pub zero_is : of_int binary64 0ℤ ≡ 0ᶠ
unfolding of_int
zero_is = refl

-- ---- what is delivered there
pub response_exact : (cs : List ℤ) (q : Quarter) (s : Bool) → weight cs ≤ most → ExactAt cs q s
response_exact cs q s l =
    let w = whole_value cs (whole_at q) in
    let v = value_at cs (point_at q s) in
    let made = delivered cs (point_at q s) (unit_inside q s) (fine cs l) in
    let held = value_holds (whole_at q) (unit_small q) (point_at q s) (unit_holds q s) cs l in
    let less = value_small (whole_at q) (unit_small q) cs in
    record {
      done = ap (λ a. a.code) made;
      real = rw made (compares v.real w.re held.real (omega arith));
      imag = rw made (compares v.imag w.im held.imag (omega arith));
      exact = (exactly w.re (omega arith), exactly w.im (omega arith));
    }
  where
    compares : (x : Float) (a : ℤ) → Holds x a → nat_abs a ≤ most → T (eq x (of_int binary64 a))
    compares x a h l = holds_eq x (of_int binary64 a) a h (holds_of_int a l)
