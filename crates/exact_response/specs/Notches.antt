-- What is proved at a notch, a point where a polynomial is 0 (`Notches` of proofs/): that the response is 0 there.
use Rattle.std.specs.Prelude.{◌≡◌, Bool, List, ℕ, T, ℤ}
use Rattle.std.specs.Float.Ieee.{eq}
use Rattle.definitions.specs.Integers.{0ℤ}
use Rattle.definitions.specs.Codes.{DONE}
use Rattle.response.specs.Response.{0ᶠ, answer}
use Rattle.exact_response.specs.Points.{Quarter, one, i, minusOne, minusI, point_at}
use Rattle.exact_response.specs.Points.{Gauss}

abbrev pub nought : Gauss
nought = record { re = 0ℤ; im = 0ℤ }

pub record NotchAt (cs : List ℤ) (q : Quarter) (s : Bool) : Type 0 where
  pub done : (answer cs (point_at q s)).code ≡ DONE
  pub real : T (eq (answer cs (point_at q s)).real 0ᶠ)
  pub imag : T (eq (answer cs (point_at q s)).imag 0ᶠ)

-- the index whose F has the notch: the order of the root
abbrev pub order : Quarter → ℕ
order one = 1
order i = 4
order minusOne = 2
order minusI = 4
