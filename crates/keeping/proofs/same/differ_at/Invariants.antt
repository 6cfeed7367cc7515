-- `differ_at`: none differs in the sixteens before.
use Rattle.std.proofs.Common.{◌≡◌, ◌*◌, false, length, drop}
use Rattle.widths.specs.Numbers.{coefficients_at}
use Rattle.keeping.specs.Keepable.{differ_to}
use Rattle.keeping.proofs.same.differ_at.Given as goal

abbrev pub invariant-loop-i : goal.invariant-loop-i
invariant-loop-i g l =
    differ_to (16 * l.i) (coefficients_at g.row.W (length l.coeffs) (drop 10 l.bytes)) l.coeffs ≡ false
