-- What is proved of the response of a polynomial at 1 (`Gain` of proofs/): that it is the gain.
use Rattle.std.specs.Prelude.{◌≡◌, Bool, ℕ, T}
use Rattle.std.specs.Float.{binary64}
use Rattle.std.specs.Float.Ieee.{eq, of_int, in_float}
use Rattle.definitions.specs.Codes.{DONE}
use Rattle.definitions.specs.Answer.{coefficients, gain}
use Rattle.response.specs.Response.{0ᶠ, answer}
use Rattle.exact_response.specs.Points.{one, point_at}

pub record GainAtOne (kind n : ℕ) (s : Bool) : Type 0 where
  pub done : (answer (coefficients kind n) (point_at one s)).code ≡ DONE
  pub real : T (eq (answer (coefficients kind n) (point_at one s)).real (of_int binary64 (gain kind n)))
  pub imag : T (eq (answer (coefficients kind n) (point_at one s)).imag 0ᶠ)
  -- the gain as an f64 is the gain itself
  pub exact : T (in_float binary64 (gain kind n))
