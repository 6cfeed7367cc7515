-- `accumulates::chains_or_undo` meets its contract. The loop's invariant: the chains below c are taken and
-- tested. A group that stops short shows a value that passes w, and what was taken can be put back.
use Prim.Native.Nat.{◌<◌}
use mathlib.Core.Path.{refl, sym, ◌∙◌, ap}
use native.Mathlib.Omega.{arith}
use lib.ListN.{length}
use Rattle.definitions.specs.Steps.{in_range, stepped}
use Rattle.entry_steps.proofs.Tested.{undone}
use Rattle.chains.proofs.Group.{settled}
use Rattle.accumulates.proofs.Pass.{same_new}
use Rattle.accumulates.proofs.TestedPass.{none-tested, asked_still, tested-after, stopped, all_tested}
use Rattle.accumulates.proofs.chains_or_undo.Goals as goal

pub loop-c-init : goal.loop-c-init
loop-c-init g c = (omega arith, none-tested c.args.w c.args.d c.args.a.now)

pub take_next-stop-requires : goal.take_next-stop-requires
take_next-stop-requires g c =
    let w = c.next_width-g.ensures in
    let p = c.requires in
    let t = c.loop-c.invariant.1 in (
      record {
        some = omega (arith, w.0);
        room = omega (arith, w.1, c.min-to.ensures);
        long = omega (arith, w.1, c.min-to.ensures, t.taken.len);
        limit = p.2;
        asked = asked_still p.0 t _ g.T.Test.way p.3;
      },
      w.2,
    )

pub undo-requires : goal.undo-requires
undo-requires g c =
    let at = c.take_next-stop.ensures in (
      c.requires.0,
      omega arith,
      omega (arith, c.next_width-g.ensures.1, c.min-to.ensures),
      at.first,
      omega (arith, at.most),
      record {
        before = c.args.a.now;
        stopped = stopped c.requires.0 c.loop-c.invariant.1 (omega arith) at.tested;
      },
    )

pub returns-then-stop-a : goal.returns-then-stop-a
unfolding stepped
returns-then-stop-a g c =
    let p = c.args in
    let t = c.take_next-stop in
    let q = c.loop-c.invariant.1 in
    let short : t.result < length c.loop-c.a = omega arith in
    let in' : t.result < length p.a.now = omega (arith, q.taken.len) in
    let out = t.ensures.over short in
    undone t.result t.ensures.first in'
    (ap (in_range p.w) (sym (same_new c.requires.0 q.taken t.result out.0 in')) ∙ out.1)
    (c.undo.ensures p.a.now (stopped c.requires.0 q (omega arith) t.ensures.tested))

pub loop-c-preserved : goal.loop-c-preserved
loop-c-preserved g c =
    let t = c.take_next-stop.ensures in (
      omega (arith, c.next_width-g.ensures.1),
      tested-after c.requires.0 c.loop-c.invariant.1 (omega arith) (settled refl (omega (arith, t.most)) t).tested,
    )

pub returns : goal.returns
returns g c = all_tested c.requires.0 (omega (arith, c.min-to.ensures)) c.loop-c.invariant.1
