-- `text::put_sign` meets its contract: the sign has one byte or none.
use mathlib.Core.Path.{ap}
use native.Mathlib.Omega.{arith}
use lib.ListN.{length}
use mir.Facts.{to_z-of_z}
use Rattle.text.proofs.Sign.{sign_below, sign_above}
use Rattle.text.proofs.put_sign.Goals as goal

pub returns-then-c-lt0 : goal.returns-then-c-lt0
returns-then-c-lt0 c = let s = c in
    let put = c.put-p.ensures in
    let one = sign_below s.args.c (rw (to_z-of_z s.ranges.c) at c.if-c-lt0.true) in record {
      out_after = put.leaves;
      value = omega (arith, put.place, ap length one);
    }

pub returns : goal.returns
returns c = let s = c in
    let none = sign_above s.args.c (rw (to_z-of_z s.ranges.c) at c.if-c-lt0.false) in record {
      out_after = c.put-p.ensures.leaves;
      value = omega (arith, ap length none);
    }
