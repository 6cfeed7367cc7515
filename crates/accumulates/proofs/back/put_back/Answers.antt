-- `accumulates::back::put_back` meets its contract, which is the loop's invariant: the places from x on are put
-- back.
use mathlib.Core.Path.{◌≡◌, subst}
use native.Mathlib.Omega.{arith}
use Rattle.accumulates.specs.Stopped.{PutBack}
use Rattle.accumulates.proofs.back.put_back.Goals as goal

pub returns : goal.returns
returns c =
    let p = c.args in
    let e : c.loop-x.x ≡ p.from = omega arith in
    subst (λ x. PutBack p.d x p.to p.a.now c.loop-x.a) e c.loop-x.invariant.1
