-- `combs::tested_or_undo` meets its contract: the comb came to its end, or stopped and was undone.
use Prim.Native.Nat.{◌-◌, ◌<◌}
use native.Mathlib.Omega.{arith}
use Rattle.entry_steps.proofs.Tested.{whole, undone}
use Rattle.combs.proofs.CombedTo.{ended}
use Rattle.combs.proofs.tested_or_undo.Goals as goal

pub returns-then-t-d : goal.returns-then-t-d
returns-then-t-d g c =
    let p = c.take_tested-t.ensures.tested_to in
    whole (λ k h. p.inside k (omega arith)) (ended p.read.done (omega arith))

pub returns : goal.returns
returns g c =
    let t = c.take_tested-t in
    let p = t.ensures.tested_to in
    let short : c.args.d < t.result = omega arith in
    undone (t.result - 1) (omega arith) (omega arith) (t.ensures.result_value short) (c.undo.ensures c.args.a.now p.read)
