-- `peak`: from what was found last, a look over the rest comes to what a look over all does (`Reached`).
use Rattle.std.proofs.Common.{◌≡◌, get_or, pos, nat_abs, rules}
use Rattle.heights.proofs.Looks.{reached_first, reached_next, reached_end}
use Rattle.heights.proofs.peak.Goals as goal

pub loop-i-init : goal.loop-i-init
loop-i-init c = reached_first c.above-i.ensures

pub loop-i-preserved : goal.loop-i-preserved
loop-i-preserved c =
    let measured : c.magnitude-h.result ≡ nat_abs (get_or c.args.coeffs.now c.loop-i.i (pos 0)) = search rules in
    reached_next c.loop-i.invariant c.loop-i-test.true measured c.above-i-in-loop-i.ensures

pub returns : goal.returns
returns c = reached_end c.loop-i.invariant c.loop-i-test.false
