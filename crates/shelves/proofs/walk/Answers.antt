-- `walk`: what is left of the walk is how it comes out (Walking).
use Rattle.std.proofs.Common.{sym, ◌∙◌, arith}
use Rattle.shelves.proofs.Walking.{begun, ended, stopped, nothing, matched, bounds, passed}
use Rattle.shelves.proofs.walk.Goals as goal

pub loop-at-init : goal.loop-at-init
loop-at-init c = begun _ _ _

pub returns-then-is_asked : goal.returns-then-is_asked
returns-then-is_asked c =
    matched _ _ _ c.loop-at.at c.loop-at-test.true c.loop-at.invariant _ _ _ _ _ c.in-Record.ensures
    (sym c.is_asked.ensures ∙ c.if-is_asked.true)

pub loop-at-smaller : goal.loop-at-smaller
loop-at-smaller c =
    let b = bounds _ _ _ c.loop-at.at c.loop-at-test.true c.loop-at.invariant _ _ _ _ _ c.in-Record.ensures in
    omega (arith, b.0, b.1)

pub loop-at-preserved : goal.loop-at-preserved
loop-at-preserved c =
    passed _ _ _ c.loop-at.at c.loop-at-test.true c.loop-at.invariant _ _ _ _ _ c.in-Record.ensures
    (sym c.is_asked.ensures ∙ c.if-is_asked.false)

pub returns-in-Refused : goal.returns-in-Refused
returns-in-Refused c = stopped _ _ _ c.loop-at.at c.loop-at-test.true c.loop-at.invariant _ _ c.in-Refused.ensures

pub returns-in-End : goal.returns-in-End
returns-in-End c = nothing _ _ _ c.loop-at.at c.loop-at-test.true c.loop-at.invariant _ c.in-End.ensures

pub returns : goal.returns
returns c = ended _ _ _ c.loop-at.at c.loop-at-test.false c.loop-at.invariant
