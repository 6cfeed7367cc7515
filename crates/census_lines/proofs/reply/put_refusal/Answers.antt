-- `census_lines::reply::put_refusal` meets its contract: a code, and the newline.
use Rattle.text.proofs.Putting.{then}
use Rattle.census_lines.specs.Printed.{refusal}
use Rattle.census_lines.proofs.reply.put_refusal.Goals as goal

pub returns-clause-puts : goal.returns-clause-puts
unfolding refusal
returns-clause-puts c = then c.put_number-p.ensures.puts c.put.ensures
