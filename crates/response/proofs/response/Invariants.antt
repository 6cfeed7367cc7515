-- `response`: what stands in `running` is the value of the coefficients from i on, and none of those is coarse.
use Rattle.std.proofs.Common.{◌≡◌, false, drop}
use Rattle.response.specs.Response.{value_at, some_coarse}
use Rattle.response.proofs.response.Given as goal

abbrev pub invariant-loop-i : goal.invariant-loop-i
invariant-loop-i l = (l.running ≡ value_at (drop l.i l.coeffs) l.at) × (some_coarse (drop l.i l.coeffs) ≡ false)
