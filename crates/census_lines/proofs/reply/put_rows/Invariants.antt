-- `census_lines::reply::put_rows` meets its contract. The loop's invariant: the first i rows are written, in at most 63
-- bytes each.
use Rattle.std.proofs.Common.{◌+◌, ◌*◌, ◌≤◌, take}
use Rattle.text.specs.Puts.{Puts}
use Rattle.census_lines.specs.Printed.{row_lines}
use Rattle.census_lines.proofs.reply.put_rows.Given as goal

abbrev pub invariant-loop-i : goal.invariant-loop-i
invariant-loop-i l = Puts (row_lines (take (3 * l.i) l.rows)) l.at l.initial.out l.out l.p × (l.p ≤ l.at + 63 * l.i)
