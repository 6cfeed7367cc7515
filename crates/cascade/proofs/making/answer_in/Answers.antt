-- `answer_in` meets its contract: SHORT, or what the making comes to (Answering).
use Prim.Native.Nat.{◌+◌}
use mathlib.Core.Path.{◌∙◌, ap}
use native.Mathlib.Omega.{arith}
use native.Mathlib.Numerals.{add-one}
use lib.Seq.{length-take-le}
use Rattle.definitions.specs.Codes.{SHORT}
use Rattle.answers.proofs.Told.{told-only}
use Rattle.cascade.proofs.Answering.{some_index, at_short, ask_short, ask_scratch, at_last}
use Rattle.cascade.proofs.making.answer_in.Goals as goal

pub returns-then-buf-total : goal.returns-then-buf-total
returns-then-buf-total c =
    let (sizes, ready) = c.requires in
    let told =
    at_short _ _ c.args.buf.now c.args.scratch.now (c.of.ensures ∙ ap (told-only SHORT) sizes.total)
    (ask_short ready _ _ (omega (arith, sizes.total, c.if-buf-total.true))) in
    record { value = told.0; buf_after = told.1.0; scratch_after = told.1.1 }

pub returns-then-scratch-sizes : goal.returns-then-scratch-sizes
returns-then-scratch-sizes c =
    let (sizes, ready) = c.requires in
    let told =
    at_short _ _ c.args.buf.now c.args.scratch.now
    (c.of-then-scratch-sizes.ensures ∙ ap (told-only SHORT) sizes.total)
    (ask_scratch ready _ _ (omega (arith, sizes.longest, c.if-scratch-sizes.true))) in
    record { value = told.0; buf_after = told.1.0; scratch_after = told.1.1 }

pub answer_of-requires : goal.answer_of-requires
answer_of-requires c =
    let (sizes, ready) = c.requires in (
      sizes.total,
      some_index ready,
      record {
        good = ready.good;
        room = length-take-le _ c.args.buf.now (omega arith) ∙ ap (λ k. k + 1) sizes.total ∙ add-one _;
        factor = omega (arith, sizes.longest);
      },
    )

pub returns : goal.returns
returns c =
    let (sizes, ready) = c.requires in
    let told =
    at_last ready c.args.buf.now c.args.scratch.now sizes.total (omega (arith, sizes.total))
    (omega (arith, sizes.longest))
    (c.answer_of.ensures.value, (c.answer_of.ensures.b_after, c.answer_of.ensures.scratch_after)) in
    record { value = told.0; buf_after = told.1.0; scratch_after = told.1.1 }
