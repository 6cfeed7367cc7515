-- `line_so_far::start` meets its contract, by computing.
use Rattle.std.proofs.Common.{refl}
use Rattle.line_so_far.specs.OpenLine.{start_line}
use Rattle.line_so_far.proofs.start.Goals as goal

pub returns : goal.returns
unfolding start_line
returns c = refl
