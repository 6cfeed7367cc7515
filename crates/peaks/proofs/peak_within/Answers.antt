-- `peak_within`: as `peak`; each magnitude that is found is an entry's, so it is within the bound.
use Rattle.std.proofs.Common.{◌≡◌, get_or, pos, nat_abs, arith, rules}
use Rattle.definitions.specs.Steps.{entries}
use Rattle.heights.proofs.Looks.{reached_first, reached_next, reached_end}
use Rattle.peaks.proofs.peak_within.Goals as goal
use Rattle.peaks.proofs.peak_within.Goals.{After-unsigned_abs-h}

measured : (c : After-unsigned_abs-h) → c.unsigned_abs-h.result ≡ nat_abs (get_or c.args.coeffs.now c.loop-i.i (pos 0))
measured c = search rules

pub loop-i-init : goal.loop-i-init
loop-i-init c = reached_first c.next_above-i.ensures

pub next_above-i-requires-in-loop-i-clause-from_in_bounds : goal.next_above-i-requires-in-loop-i-clause-from_in_bounds
unfolding entries
next_above-i-requires-in-loop-i-clause-from_in_bounds c =
    let m = measured (goal.at.next_above-i-requires-in-loop-i-clause-from_in_bounds c).After-unsigned_abs-h in
    (omega arith, omega (arith, m, c.requires c.loop-i.i), omega arith)

pub loop-i-preserved : goal.loop-i-preserved
loop-i-preserved c =
    let m = measured (goal.at.loop-i-preserved c).After-unsigned_abs-h in
    reached_next c.loop-i.invariant (omega arith) m c.next_above-i-in-loop-i.ensures

pub returns : goal.returns
returns c = reached_end c.loop-i.invariant (omega arith)
