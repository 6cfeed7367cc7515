-- `negated_copy` meets its contract: an entry becomes the negative of the one r before, which is old.
use Prim.Native.Nat.{◌-◌}
use mathlib.Core.Path.{ap}
use native.Mathlib.Omega.{arith}
use lib.ListN.{get_or, set}
use Rattle.definitions.specs.Integers.{0ℤ}
use Rattle.definitions.specs.Steps.{entries}
use Rattle.entry_steps.proofs.Split.{all_below, all_firsts}
use Rattle.shapes.proofs.Negation.{minus_fits, stored_minus}
use Rattle.shapes.proofs.Shaping.{starts, copied_low, copy_read, copy_turn}
use Rattle.shapes.proofs.negated_copy.Goals as goal

pub loop-i-init : goal.loop-i-init
loop-i-init c = let l = c.args.a.now in starts l c.args.r (λ k h. copied_low c.args.r (entries l) k h)

pub overflow_sub-a-in-loop-i : goal.overflow_sub-a-in-loop-i
unfolding entries
overflow_sub-a-in-loop-i c =
    let i = c.loop-i.auto.i in
    let read = copy_read c.args.r (entries c.args.a.now) c.loop-i.invariant i c.loop-i-test.true c.requires.3 in
    minus_fits (get_or c.loop-i.a (c.loop-i.i - c.args.r) 0ℤ) (omega arith) (rw read (c.requires.0 _ (omega arith)))

pub loop-i-preserved : goal.loop-i-preserved
unfolding entries
loop-i-preserved c =
    let i = c.loop-i.auto.i in
    let read = copy_read c.args.r (entries c.args.a.now) c.loop-i.invariant i c.loop-i-test.true c.requires.3 in
    copy_turn c.args.r (entries c.args.a.now) c.loop-i.invariant i c.loop-i-test.true c.requires.3
    (ap (set c.loop-i.a c.loop-i.i) (stored_minus _ (omega arith) (rw read (c.requires.0 _ (omega arith)))))

pub returns : goal.returns
returns c = all_firsts (all_below c.loop-i.invariant (omega arith))
