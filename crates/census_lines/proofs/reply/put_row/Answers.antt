-- `census_lines::reply::put_row` meets its contract: the height, then the two other numbers.
use Rattle.text.proofs.Putting.{then}
use Rattle.census_lines.specs.Printed.{row_line}
use Rattle.census_lines.proofs.reply.put_row.Goals as goal

pub returns-clause-puts : goal.returns-clause-puts
unfolding row_line
returns-clause-puts c = then c.put_number-p.ensures.puts c.put_two_more.ensures.puts
