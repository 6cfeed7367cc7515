-- `twos_of`: below 0, 2^(8w) - (n + 1) is (top w - n) + top w + 1, which no sum on the way passes 2^64 (Signs, Widths).
use Prim.Native.Nat.{◌<◌, ◌^◌}
use mathlib.Core.Path.{◌∙◌, ap, sym}
use native.Mathlib.Omega.{arith}
use lib.IntN.{nat_abs}
use Rattle.heights.proofs.Signs.{casts, turned, nat_abs_below, plain}
use Rattle.widths.specs.Numbers.{top}
use Rattle.widths.proofs.Signs.{twos_below, twos-above}
use Rattle.widths.proofs.Widths.{full, top_small}
use Rattle.widths.proofs.twos_of.Goals as goal
use Rattle.widths.proofs.twos_of.Goals.{Start}

pub overflow_cast-result : goal.overflow_cast-result
overflow_cast-result c =
    casts (turned c.args.x c.ranges.x c.if-x-lt0.true)
    c.ranges.x.sfits

pub overflow_sub-result : goal.overflow_sub-result
overflow_sub-result c =
    let x = c.args.x in
    let fit = c.ranges.x in
    omega (arith, ap nat_abs (turned x fit c.if-x-lt0.true), nat_abs_below x fit c.if-x-lt0.true)

-- the heights that fit
small : (start : Start) → top start.args.w < 2 ^ 63
small start = top_small start.args.w start.requires.0 start.requires.1

pub overflow_add-result : goal.overflow_add-result
overflow_add-result c = omega (arith, small c.before.before)

pub overflow_add-result-then-x-lt0 : goal.overflow_add-result-then-x-lt0
overflow_add-result-then-x-lt0 c = omega (arith, small c.before.before)

pub overflow_cast-result-else-x-lt0 : goal.overflow_cast-result-else-x-lt0
overflow_cast-result-else-x-lt0 c =
    casts (plain c.args.x c.ranges.x c.if-x-lt0.false)
    c.ranges.x.sfits

pub returns-then-x-lt0 : goal.returns-then-x-lt0
returns-then-x-lt0 c =
    let start = c in
    let x = start.args.x in
    let fit = start.ranges.x in
    omega (
      arith,
      ap nat_abs (turned x fit c.if-x-lt0.true),
      nat_abs_below x fit c.if-x-lt0.true,
      twos_below x fit c.if-x-lt0.true start.args.w,
      full start.args.w start.requires.0,
    )

pub returns-else-x-lt0 : goal.returns-else-x-lt0
returns-else-x-lt0 c =
    let start = c in
    ap nat_abs (plain start.args.x start.ranges.x c.if-x-lt0.false) ∙ sym
    (twos-above start.args.x start.ranges.x c.if-x-lt0.false start.args.w)
