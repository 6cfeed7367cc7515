-- `whole_of`: below 0 by turning all bits round (Signs).
use mir.Syntax.{w64}
use mir.Facts.{to_z_pos}
use Rattle.widths.proofs.Signs.{whole}
use Rattle.widths.proofs.whole_of.Goals as goal

pub returns-then-below : goal.returns-then-below
returns-then-below c = whole c.args.below c.args.m c.if-below.true c.requires

pub returns-else-below : goal.returns-else-below
returns-else-below c = rw c.if-below.false (to_z_pos w64 c.requires)
