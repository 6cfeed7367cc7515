-- `lesser_top`: each arm's number is computed, and the last is that of the only width left.
use Rattle.widths.specs.Numbers.{top}
use Rattle.widths.specs.Classes.{lesser}
use Rattle.widths.proofs.Least.{width_last}
use Rattle.widths.proofs.lesser_top.Goals as goal

pub returns-in-1 : goal.returns-in-1
unfolding lesser top
returns-in-1 c = rw c.in-1.is

pub returns-in-2 : goal.returns-in-2
unfolding lesser top
returns-in-2 c = rw c.in-2.is

pub returns-in-4 : goal.returns-in-4
unfolding lesser top
returns-in-4 c = rw c.in-4.is

pub returns-in_default : goal.returns-in_default
unfolding lesser top
returns-in_default c =
    let r = c.in_default.in_default-own.rest in
    rw (width_last c.args.w c.requires r.0.0.1 r.0.1 r.1)
