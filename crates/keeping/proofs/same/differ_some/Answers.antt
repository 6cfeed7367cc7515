-- `differ_some`: one more, by the definition's own step (Comparing).
use Rattle.std.proofs.Common.{length, drop}
use Rattle.widths.specs.Numbers.{coefficients_at}
use Rattle.keeping.specs.Keepable.{differ_to}
use Rattle.keeping.proofs.Comparing.{differ-next}
use Rattle.keeping.proofs.same.differ_some.Goals as goal

pub loop-i-preserved : goal.loop-i-preserved
loop-i-preserved g c =
    let coeffs = c.args.coeffs.now in
    let stored = coefficients_at g.row.W (length coeffs) (drop 10 c.args.bytes.now) in
    differ-next stored coeffs c.loop-i.i (differ_to c.args.from stored coeffs) c.loop-i.found c.unlike-found.result
    c.loop-i.invariant c.unlike-found.ensures
