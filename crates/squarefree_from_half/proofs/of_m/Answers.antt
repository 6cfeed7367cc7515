-- `of_m` meets its contract, by parity and kind (Even).
use native.Mathlib.Omega.{arith}
use Rattle.numbers.specs.Phi.{phi-le}
use Rattle.numbers.specs.Tests.{kind_two}
use Rattle.squarefree_from_half.proofs.Even.{F-length}
use Rattle.squarefree_from_half.proofs.Even.{F_grown, I-length, I_grown, top-I}
use Rattle.squarefree_from_half.proofs.of_m.Goals as goal

pub alternated-requires : goal.alternated-requires
alternated-requires c =
    let p = c in (
      p.requires.0,
      F-length p.args.kind p.args.r p.args.even p.args.a.now p.requires.4
          (c.if-not-even.false) p.requires.0.squarefree p.requires.0.above
          c.if-kind-eq1.true,
    )

pub returns-then-kind-eq1 : goal.returns-then-kind-eq1
returns-then-kind-eq1 c =
    let p = c in
    F_grown p.args.kind p.args.r p.args.even p.args.a.now p.requires.4
    (c.if-not-even.false) p.requires.0.squarefree
    p.requires.0.above c.if-kind-eq1.true _ c.alternated.ensures

pub overflow_sub-top : goal.overflow_sub-top
overflow_sub-top c = let p = c in omega (arith, phi-le p.args.r)

pub inverse_of_twice-requires : goal.inverse_of_twice-requires
inverse_of_twice-requires c =
    let p = c in (
      rw (kind_two p.args.kind p.requires.1 c.if-kind-eq1.false) at p.requires.0,
      top-I p.args.r p.args.free p.requires.2,
      I-length p.args.kind p.args.r p.args.even
          p.args.a.now p.requires.4 (c.if-not-even.false)
          p.requires.0.squarefree
          p.requires.0.above c.if-kind-eq1.false p.args.free p.requires.2,
    )

pub returns : goal.returns
returns c =
    let p = c in
    I_grown p.args.kind p.args.r p.args.even p.args.a.now p.requires.4
    (c.if-not-even.false) p.requires.0.squarefree
    p.requires.0.above c.if-kind-eq1.false _ c.inverse_of_twice.ensures
