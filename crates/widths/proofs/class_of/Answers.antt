-- `class_of`: each test on v is one of the magnitude that v stands for (Classes).
use Prim.Native.Nat.{◌<◌, ◌^◌}
use mathlib.Core.Path.{sym}
use native.Mathlib.Omega.{arith}
use Rattle.widths.specs.Numbers.{top}
use Rattle.widths.proofs.Widths.{full, top_small}
use Rattle.widths.proofs.Least.{width_bounds}
use Rattle.widths.proofs.Classes.{lowest, small_above, small_below, between}
use Rattle.widths.proofs.class_of.Goals as goal
use Rattle.widths.proofs.class_of.Goals.{After-lesser_top-less, Start}

-- the start, from the place past the two tops; the heights that fit there
abbrev from : After-lesser_top-less → Start
from c = c.before.before

small : (c : After-lesser_top-less) → top (from c).args.w < 2 ^ 63
small c =
    let b = width_bounds (from c).args.w (from c).requires.0 in
    top_small (from c).args.w b.0 b.1

pub top_of-most-requires : goal.top_of-most-requires
top_of-most-requires c = width_bounds c.args.w c.requires.0

pub overflow_add-most : goal.overflow_add-most
overflow_add-most c = omega (arith, small c)

pub returns-then-v-most : goal.returns-then-v-most
returns-then-v-most c =
    let start = from c.before in
    sym (lowest _ _ start.requires.0 start.requires.1 (omega arith))

pub returns-then-v-less : goal.returns-then-v-less
returns-then-v-less c =
    let start = from c.before.before in
    sym (small_above _ _ start.requires.0 start.requires.1 (omega arith))

pub overflow_add-most-2 : goal.overflow_add-most-2
overflow_add-most-2 c = omega (arith, small c.before.before)

pub overflow_add-most-3 : goal.overflow_add-most-3
overflow_add-most-3 c = omega (arith, small c.before.before)

pub overflow_sub-most : goal.overflow_sub-most
overflow_sub-most c =
    let start = from c.before.before in
    omega (arith, full start.args.w (width_bounds start.args.w start.requires.0).0)

pub returns-then-most-v : goal.returns-then-most-v
returns-then-most-v c =
    let start = from c.before.before.before in
    sym (small_below _ _ start.requires.0 start.requires.1 (omega arith))

pub returns : goal.returns
returns c =
    let start = from c.before.before.before in
    sym (between _ _ start.requires.0 start.requires.1 (λ e. c.if-v-most.false (omega arith)) (omega arith)
    (omega arith))
