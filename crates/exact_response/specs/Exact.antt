-- What is proved of the response at 1, i, -1 and -i (`Exact` of proofs/): that it is delivered and compares equal to the
-- whole-number value, of which none is lost when it is made an f64.
use Rattle.std.specs.Prelude.{◌≡◌, Bool, List, ℕ, ◌+◌, T, ℤ, nat_abs}
use Rattle.std.specs.Float.Ieee.{binary64, of_int, in_float, eq}
use Rattle.definitions.specs.Codes.{DONE}
use Rattle.whole_floats.specs.Holds.{Holds}
use Rattle.response.specs.declared.Point.{Point}
use Rattle.response.specs.Response.{answer}
use Rattle.exact_response.specs.Points.{Quarter, point_at}
use Rattle.exact_response.specs.Points.{Gauss, whole_at, whole_value}

pub record HoldsBoth (v : Point) (w : Gauss) : Type 0 where
  pub real : Holds v.real w.re
  pub imag : Holds v.imag w.im

-- the magnitudes of both parts
abbrev pub span : Gauss → ℕ
span w = nat_abs w.re + nat_abs w.im

-- ---- what is delivered there
pub record ExactAt (cs : List ℤ) (q : Quarter) (s : Bool) : Type 0 where
  pub done : (answer cs (point_at q s)).code ≡ DONE
  pub real : T (eq (answer cs (point_at q s)).real (of_int binary64 (whole_value cs (whole_at q)).re))
  pub imag : T (eq (answer cs (point_at q s)).imag (of_int binary64 (whole_value cs (whole_at q)).im))
  -- each as an f64 is the whole number itself
  pub exact : T (in_float binary64 (whole_value cs (whole_at q)).re)
      × T (in_float binary64 (whole_value cs (whole_at q)).im)
