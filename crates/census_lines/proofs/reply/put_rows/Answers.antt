-- `census_lines::reply::put_rows` meets its contract: one row more after those that are written.
use Rattle.std.proofs.Common.{arith}
use Rattle.text.proofs.Putting.{nothing_put, then}
use Rattle.census_lines.specs.Printed.{row_lines}
use Rattle.census_lines.proofs.Rows.{line_more}
use Rattle.census_lines.proofs.reply.put_rows.Goals as goal

pub loop-i-init : goal.loop-i-init
unfolding row_lines
loop-i-init c = (nothing_put _ _, omega arith)

pub loop-i-preserved : goal.loop-i-preserved
loop-i-preserved c = (
  rw (line_more c.args.rows.now c.loop-i.i (omega arith)) (then c.loop-i.invariant.0 c.put_row-p.ensures.puts),
  omega (arith, c.put_row-p.ensures.upper_bound),
)
