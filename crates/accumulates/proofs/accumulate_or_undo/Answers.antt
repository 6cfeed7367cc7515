-- `accumulates::accumulate_or_undo` meets its contract: along the chains it is the step, whole or undone; the second
-- row came to its end, or it is a group of all chains that stopped short, and is undone.
use Prim.Native.Nat.{◌<◌}
use mathlib.Core.Path.{refl}
use native.Mathlib.Omega.{arith}
use lib.ListN.{length}
use Rattle.definitions.specs.Steps.{stepped}
use Rattle.entry_steps.proofs.Tested.{undone}
use Rattle.chains.proofs.Group.{settled}
use Rattle.accumulates.proofs.TestedPass.{none-tested, stopped, all_tested}
use Rattle.accumulates.proofs.accumulate_or_undo.Goals as goal

pub returns-then-stop-a : goal.returns-then-stop-a
returns-then-stop-a g c =
    let t = c.take_second_row-stop.ensures in
    all_tested c.requires.0 (omega arith) (settled refl (omega (arith, t.tested.taken.len)) t).tested

pub undo-requires : goal.undo-requires
undo-requires g c =
    let p = c.args in
    let t = c.take_second_row-stop.ensures in (
      c.requires.0,
      omega arith,
      omega arith,
      t.first,
      omega (arith, t.most, t.tested.taken.len),
      record {
        before = p.a.now;
        stopped = stopped c.requires.0 (none-tested p.w p.d p.a.now) (omega arith) t.tested;
      },
    )

pub returns : goal.returns
unfolding stepped
returns g c =
    let p = c.args in
    let stop = c.take_second_row-stop.result in
    let t = c.take_second_row-stop.ensures in
    let short : stop < length p.a.now = omega (arith, t.most, t.tested.taken.len) in
    undone stop t.first short (t.over short).1
    (c.undo.ensures p.a.now (stopped c.requires.0 (none-tested p.w p.d p.a.now) (omega arith) t.tested))
