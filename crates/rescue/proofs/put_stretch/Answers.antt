-- `rescue::put_stretch` meets its contract: three parts, one after the other, of 20, 21 bytes at most and one byte.
use Rattle.text.proofs.Putting.{then}
use Rattle.rescue.specs.Lines.{line_of}
use Rattle.rescue.proofs.put_stretch.Goals as goal

pub returns-clause-puts : goal.returns-clause-puts
unfolding line_of
returns-clause-puts c = then c.put_number-p.ensures.puts (then c.put_item-p.ensures.puts c.put.ensures)
