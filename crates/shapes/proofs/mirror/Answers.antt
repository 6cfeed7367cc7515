-- `mirror` meets its contract: what is read lies in the lower half, and is old.
use Prim.Native.Nat.{◌-◌, ◌<◌, ◌≤◌}
use mathlib.Core.Path.{◌∙◌}
use native.Mathlib.Omega.{arith}
use lib.ListN.{get_or, length}
use lib.IntN.{nat_abs}
use mir.Syntax.{w64}
use mir.Facts.{to_z-of_z}
use Rattle.definitions.specs.Integers.{0ℤ}
use Rattle.definitions.specs.Steps.{entries, largest}
use Rattle.entry_steps.proofs.Split.{all_below, all_firsts}
use Rattle.shapes.proofs.Negation.{minus_fits, stored_minus}
use Rattle.shapes.proofs.Shaping.{starts, mirrored_low, mirror_read, mirror_turn}
use Rattle.shapes.proofs.mirror.Goals as goal
use Rattle.shapes.proofs.mirror.Goals.{At-loop-i, then-negate, else-negate}

pub loop-i-init : goal.loop-i-init
loop-i-init c = let l = c.args.a.now in starts l _ (λ k h. mirrored_low c.args.negate _ (entries l) k h)

-- what is read can be negated
small : (c : At-loop-i) → c.loop-i.i < length c.args.a.now
    → nat_abs (entries c.loop-i.a (length c.args.a.now - 1 - c.loop-i.i)) ≤ largest
small c b =
    rw (mirror_read c.args.negate c.args.a.now c.loop-i.invariant c.loop-i.auto.i b) (c.requires _ (omega arith))

pub overflow_sub-a : goal.overflow_sub-a
unfolding entries
overflow_sub-a c =
    let x = get_or c.loop-i.a (length c.args.a.now - 1 - c.loop-i.i) 0ℤ in
    minus_fits x (omega arith) (small (goal.at.overflow_sub-a c).At-loop-i c.loop-i-test.true)

pub loop-i-preserved : goal.loop-i-preserved
unfolding entries
loop-i-preserved c =
    let at = (goal.at.loop-i-preserved c).At-loop-i in
    mirror_turn c.args.negate c.args.a.now c.loop-i.invariant c.loop-i.auto.i c.loop-i-test.true _
    (elim c.if-negate.branch [
      | then-negate w ↦ rw w.if-negate.true (w.a-is ∙ stored_minus _ (omega arith) (small at c.loop-i-test.true))
      | else-negate w ↦ rw w.if-negate.false (w.a-is ∙ to_z-of_z {w = w64} (record { sfits = omega arith }))
    ])

pub returns : goal.returns
returns c = all_firsts (all_below c.loop-i.invariant (omega arith))
