-- `answer_in` meets its contract: SHORT, or what the making came to (Answering).
use Rattle.std.proofs.Common.{◌≡◌, ◌+◌, ◌≤◌, ℤ, nat_abs, w64, arith, ◌∙◌, ap}
use lib.Seq.{length-take-le}
use mir.Val.{SFits}
use mir.Facts.{to_z-of_z}
use Rattle.definitions.specs.Codes.{SHORT}
use Rattle.definitions.specs.Polynomials.{degree}
use Rattle.definitions.specs.Requests.{zeros}
use Rattle.step_laws.specs.Signed.{mag_abs}
use Rattle.index.proofs.Laws.{index_good, parts_degree}
use Rattle.answers.proofs.Told.{told-only}
use Rattle.second.proofs.Answering.{ask_short, ask_scratch, at_short, refuses, delivers}
use Rattle.second.proofs.making.answer_in.Goals as goal
use Rattle.second.proofs.making.answer_in.Goals.{After-degree_from-degree}

degree_is : (c : After-degree_from-degree) → c.degree_from-degree.result ≡ degree c.args.kind c.args.n
degree_is c = parts_degree c.args.n _ c.requires.0 c.args.kind _ c.degree_from-degree.ensures

-- a small number is what the machine reads back
small : (z : ℤ) → nat_abs z ≤ 65535 → SFits w64 z
small z l = record { sfits = omega (arith, mag_abs z) }

pub returns-then-buf-degree : goal.returns-then-buf-degree
returns-then-buf-degree c =
    let d = degree_is (goal.at.returns-then-buf-degree c).After-degree_from-degree in
    let s = at_short c.args.kind c.args.n _ c.args.buf.now c.args.scratch.now
    (ask_short _ _ c.args.h _ _ c.requires.1 c.requires.2 c.requires.3 (omega (arith, d))) in
    record { value = c.of.ensures ∙ ap (told-only SHORT) d ∙ s.0; buf_after = s.1.0; scratch_after = s.1.1 }

pub overflow_mul-n : goal.overflow_mul-n
overflow_mul-n c = omega (arith, (index_good _ c.requires.2).1)

pub overflow_add-n : goal.overflow_add-n
overflow_add-n c = omega (arith, (index_good _ c.requires.2).1)

pub returns-then-scratch-n : goal.returns-then-scratch-n
returns-then-scratch-n c =
    let d = degree_is (goal.at.returns-then-scratch-n c).After-degree_from-degree in
    let s = at_short c.args.kind c.args.n _ c.args.buf.now c.args.scratch.now
    (ask_scratch _ _ c.args.h _ _ c.requires.1 c.requires.2 c.requires.3 (omega (arith, d)) (omega arith)) in
    record {
      value = c.of-then-scratch-n.ensures ∙ ap (told-only SHORT) d ∙ s.0;
      buf_after = s.1.0;
      scratch_after = s.1.1;
    }

pub make-made-requires : goal.make-made-requires
make-made-requires c = (
  record {
    parts = c.requires.0;
    known = c.requires.1;
    good = c.requires.2;
    room = length-take-le _ c.args.buf.now (omega arith)
        ∙ ap (λ k. k + 1) (degree_is (goal.at.make-made-requires c).After-degree_from-degree);
  },
  c.requires.3,
  omega arith,
)

pub returns-in_default : goal.returns-in_default
returns-in_default c =
    let d = degree_is (goal.at.returns-in_default c).After-degree_from-degree in
    let s = refuses c.args.kind c.args.n c.args.h c.args.buf.now c.args.scratch.now c.requires.1 c.requires.2
    c.requires.3 _ d (omega arith) (omega arith) _ c.clear.new.a
    (c.clear.ensures ∙ ap zeros c.make-made.auto.scratch) c.in_default.ensures.0 c.in_default.ensures.1 in
    record { value = c.of-in_default.ensures ∙ s.0; buf_after = s.1.0; scratch_after = s.1.1 }

pub returns : goal.returns
returns c =
    let d = degree_is (goal.at.returns c).After-degree_from-degree in
    let s = delivers c.args.kind c.args.n c.args.h c.args.buf.now c.args.scratch.now c.requires.1 c.requires.2
    c.requires.3 _ d (omega arith) (omega arith) _ c.clear.new.a
    (c.clear.ensures ∙ ap zeros c.make-made.auto.scratch) c.in-Ok.laid c.in-Ok.ensures _
    (to_z-of_z (small _ c.gain_of-gain.ensures.1) ∙ c.gain_of-gain.ensures.0) in
    record { value = s.0; buf_after = s.1.0; scratch_after = s.1.1 }
