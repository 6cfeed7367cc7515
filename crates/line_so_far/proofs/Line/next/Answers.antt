-- `line_so_far::Line::next` meets its contract, by computing.
use Rattle.std.proofs.Common.{refl}
use Rattle.line_so_far.specs.OpenLine.{next_line}
use Rattle.line_so_far.proofs.Line.next.Goals as goal

pub returns : goal.returns
unfolding next_line
returns c = refl
