-- `response::next` meets its contract: the sequence is the definition's, and a coefficient that is not coarse is a
-- float exactly.
use mathlib.Core.Path.{refl}
use mir.Facts.{to_z-of_z}
use Rattle.response.specs.Response.{next_at}
use Rattle.response.specs.Laws.{fine_exact}
use Rattle.response.proofs.next.Goals as goal

pub int_to_float-coefficient : goal.int_to_float-coefficient
int_to_float-coefficient c = rw (to_z-of_z c.ranges.c) (fine_exact c.args.c c.requires)

pub returns : goal.returns
unfolding next_at
returns c =
    rw (to_z-of_z c.ranges.c) refl
