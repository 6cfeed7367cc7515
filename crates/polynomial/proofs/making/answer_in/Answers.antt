-- `answer_in` meets its contract: SHORT, or what the making came to (Answering).
use Rattle.std.proofs.Common.{◌≡◌, ◌+◌, ◌≤◌, ℤ, nat_abs, w64, arith, ◌∙◌, ap}
use lib.Seq.{length-take-le}
use mir.Val.{SFits}
use mir.Facts.{to_z-of_z}
use Rattle.definitions.specs.Codes.{SHORT}
use Rattle.definitions.specs.Polynomials.{degree}
use Rattle.step_laws.specs.Signed.{mag_abs}
use Rattle.index.proofs.Laws.{parts_degree}
use Rattle.answers.proofs.Told.{told-only}
use Rattle.polynomial.proofs.Answering.{ask_short, at_short, refuses, delivers}
use Rattle.polynomial.proofs.making.answer_in.Goals as goal
use Rattle.polynomial.proofs.making.answer_in.Goals.{After-degree_from-degree}

degree_is : (c : After-degree_from-degree) → c.degree_from-degree.result ≡ degree c.args.kind c.args.n
degree_is c = parts_degree c.args.n _ c.requires.0 c.args.kind _ c.degree_from-degree.ensures

-- a small number is what the machine reads back
small : (z : ℤ) → nat_abs z ≤ 65535 → SFits w64 z
small z l = record { sfits = omega (arith, mag_abs z) }

pub returns-then-buf-degree : goal.returns-then-buf-degree
returns-then-buf-degree c =
    let d = degree_is (goal.at.returns-then-buf-degree c).After-degree_from-degree in
    let s = at_short c.args.kind c.args.n _ _ c.args.buf.now
    (ask_short _ _ c.args.h c.args.w _ c.requires.1 c.requires.2 c.requires.3 c.requires.4.0 (omega arith)) in
    record { value = c.of.ensures ∙ ap (told-only SHORT) d ∙ s.0; buf_after = s.1 }

pub make-requires : goal.make-requires
make-requires c = (
  record {
    parts = c.requires.0;
    known = c.requires.1;
    good = c.requires.2;
    room = length-take-le _ c.args.buf.now (omega arith)
        ∙ ap (λ k. k + 1) (degree_is (goal.at.make-requires c).After-degree_from-degree);
  },
  c.requires.3,
  c.requires.4,
)

pub returns-in-Err : goal.returns-in-Err
returns-in-Err c =
    let d = degree_is (goal.at.returns-in-Err c).After-degree_from-degree in
    let s = refuses c.args.kind c.args.n c.args.h c.args.w c.args.buf.now c.requires.1 c.requires.2 c.requires.3
    c.requires.4.0 _ d (omega arith) _ c.in-Err.refusal c.in-Err.ensures in
    record { value = c.of-in-Err.ensures ∙ s.0; buf_after = s.1 }

pub returns-in-Ok : goal.returns-in-Ok
returns-in-Ok c =
    let d = degree_is (goal.at.returns-in-Ok c).After-degree_from-degree in
    let s = delivers c.args.kind c.args.n c.args.h c.args.w c.args.buf.now c.requires.1 c.requires.2 c.requires.3
    c.requires.4.0 _ d (omega arith) _ c.in-Ok.made c.in-Ok.ensures _
    (to_z-of_z (small _ c.gain_of.ensures.1) ∙ c.gain_of.ensures.0) in
    record { value = s.0; buf_after = s.1 }
