-- `line_so_far::Line::push` meets its contract, by the test of the length.
use Rattle.std.proofs.Common.{le-ltb, lt-ltb}
use Rattle.line_so_far.specs.OpenLine.{pushed}
use Rattle.line_so_far.proofs.Line.push.Goals as goal

pub returns-then-n-lt-KEPT : goal.returns-then-n-lt-KEPT
unfolding pushed
returns-then-n-lt-KEPT c = rw (lt-ltb _ _ c.if-n-lt-KEPT.true)

pub returns-else-n-lt-KEPT : goal.returns-else-n-lt-KEPT
unfolding pushed
returns-else-n-lt-KEPT c = rw (le-ltb _ _ c.if-n-lt-KEPT.false)
