-- `answer_of` meets its contract: OVER, TALL or the product (Answering).
use Prim.Native.Nat.{◌≤◌}
use native.Mathlib.Omega.{arith}
use mir.Syntax.{w64}
use mir.Facts.{to_z-of_z}
use Rattle.definitions.specs.Steps.{largest}
use Rattle.cascade.proofs.Answering.{made_over_lem, made_tall, made_done}
use mathlib.Core.Path.{ap}
use Rattle.std.specs.Prelude.{is_err}
use Rattle.cascade.proofs.making.answer_of.Goals as goal

pub returns-in_default : goal.returns-in_default
returns-in_default c =
    let told =
    made_over_lem c.requires.2.good c.make-made.ensures.product_is c.args.h c.requires.0 _ c.make-made.new.scratch
    c.args.scratch.now c.clear.ensures c.make-made.ensures.scratch_len_unchanged (ap is_err c.in_default.is) c.of.ensures
    c.clear-in_default.ensures in
    record { value = told.0; b_after = told.1.0; scratch_after = told.1.1 }

pub returns-then-h-made : goal.returns-then-h-made
returns-then-h-made c =
    let told =
    made_tall c.requires.2.good c.make-made.ensures.product_is c.args.h c.requires.0 _ c.make-made.new.scratch
    c.args.scratch.now c.clear.ensures c.make-made.ensures.scratch_len_unchanged c.in-Ok.is c.if-h-made.true
    c.of-then-h-made.ensures c.clear-then-h-made.ensures in
    record { value = told.0; b_after = told.1.0; scratch_after = told.1.1 }

pub returns : goal.returns
returns c =
    let small : c.in-Ok.made.gain ≤ largest = c.in-Ok.ensures.product_is.product.small in
    let told =
    made_done c.requires.2.good c.make-made.ensures.product_is c.args.h c.requires.0 _ c.make-made.new.scratch
    c.args.scratch.now c.clear.ensures c.make-made.ensures.scratch_len_unchanged c.in-Ok.is c.if-h-made.false
    (to_z-of_z {w = w64} (record { sfits = omega arith })) in
    record { value = told.0; b_after = told.1.0; scratch_after = told.1.1 }
