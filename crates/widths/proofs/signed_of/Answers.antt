-- `signed_of`: above top w, 2^(8w) - (v + 1) is top w - (v - top w - 1) (Widths).
use Prim.Native.Nat.{◌<◌, ◌^◌}
use mathlib.Core.Path.{◌∙◌}
use native.Mathlib.Omega.{arith}
use Rattle.heights.proofs.Signs.{passed}
use Rattle.widths.specs.Numbers.{top}
use Rattle.widths.proofs.Widths.{full, top_small, signed_low, signed_high}
use Rattle.widths.proofs.signed_of.Goals as goal
use Rattle.widths.proofs.signed_of.Goals.{Start}

-- the heights that fit
small : (start : Start) → top start.args.w < 2 ^ 63
small start = top_small start.args.w start.requires.0 start.requires.1

pub whole_of-requires : goal.whole_of-requires
whole_of-requires c = omega (arith, small c.before.before)

pub overflow_sub-most : goal.overflow_sub-most
overflow_sub-most c = omega (arith, full c.args.w c.requires.0)

pub whole_of-requires-else-v-most : goal.whole_of-requires-else-v-most
whole_of-requires-else-v-most c = omega (arith, small c.before.before)

pub returns-then-v-most : goal.returns-then-v-most
returns-then-v-most c =
    let start = c in
    passed c.whole_of.result c.whole_of.type_inv ∙ c.whole_of.ensures
    ∙ signed_low start.args.w c.top_of-most.result start.args.v
    c.top_of-most.ensures
    c.if-v-most.true

pub returns-else-v-most : goal.returns-else-v-most
returns-else-v-most c =
    let start = c in
    passed c.whole_of-else-v-most.result c.whole_of-else-v-most.type_inv ∙ c.whole_of-else-v-most.ensures
    ∙ signed_high start.args.w c.top_of-most.result start.args.v start.requires.0
    c.top_of-most.ensures
    c.if-v-most.false
