-- `differ_some`: what was found so far is that of the first of them, by the definition's own step.
use Rattle.std.proofs.Common.{◌≡◌, ◌||◌, length, drop}
use Rattle.widths.specs.Numbers.{coefficients_at}
use Rattle.keeping.specs.Keepable.{differ_to}
use Rattle.keeping.proofs.same.differ_some.Given as goal

abbrev pub invariant-loop-i : goal.invariant-loop-i
invariant-loop-i g l =
    (differ_to l.from (coefficients_at g.row.W (length l.coeffs) (drop 10 l.bytes)) l.coeffs || l.found)
    ≡ differ_to l.i (coefficients_at g.row.W (length l.coeffs) (drop 10 l.bytes)) l.coeffs
