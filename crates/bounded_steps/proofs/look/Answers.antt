-- `look` meets its contract. The loop's invariant: no entry that was looked at is larger than what has come together.
use mathlib.Core.Path.{◌≡◌, ◌∙◌, ap}
use native.Mathlib.Nat.{le_trans}
use native.Mathlib.Omega.{arith}
use borrow.Author.Count.{below_more}
use lib.ListN.{length, get_or, get_or-eq_default}
use lib.IntN.{nat_abs}
use mir.Syntax.{w64}
use mir.Val.{to_z, of_z}
use mir.Facts.{to_z-of_z}
use Rattle.std.proofs.lemmas.Nat.{le_or_l, le_or_r}
use Rattle.definitions.specs.Integers.{0ℤ}
use Rattle.definitions.specs.Steps.{entries}
use Rattle.step_laws.specs.Tests.{by_order}
use Rattle.bounded_steps.proofs.look.Goals as goal

pub loop-x-preserved : goal.loop-x-preserved
loop-x-preserved c =
    let this = c.unsigned_abs-all in
    let x = get_or c.args.a.now c.loop-x.x-index 0ℤ in
    let read : to_z w64 (of_z w64 x) ≡ x = to_z-of_z {w = w64} (record { sfits = c.unsigned_abs-arg-1.given }) in
    let is : this.result ≡ nat_abs x = this.ensures.value ∙ ap nat_abs read in
    below_more _ _ (λ k h. le_trans (c.loop-x.invariant k h) (le_or_l c.loop-x.all this.result))
    (rw (← is) (le_or_r c.loop-x.all this.result))

pub returns : goal.returns
unfolding entries
returns c = λ k.
    let l = c.args.a.now in
    by_order k (length l) (λ here. c.loop-x.invariant k (omega arith))
    (λ past. rw (get_or-eq_default l 0ℤ {n = k} past) (omega arith))
