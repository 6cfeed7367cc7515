-- `copy_up` meets its contract: an entry that is copied is the one d before it.
use Prim.Native.Nat.{◌-◌}
use mathlib.Core.Path.{sym, ◌∙◌, ap}
use native.Mathlib.Omega.{arith}
use lib.ListN.{get_or}
use mir.Syntax.{w64}
use mir.Val.{SFits}
use Rattle.definitions.specs.Integers.{0ℤ}
use Rattle.definitions.specs.Steps.{entries}
use mir.Facts.{to_z-of_z}
use Rattle.step_laws.specs.Firsts.{is_firsts}
use Rattle.entry_steps.proofs.Split.{get_or-set_by}
use Rattle.repeats.proofs.copy_up.Goals as goal

pub loop-i-preserved : goal.loop-i-preserved
unfolding entries
loop-i-preserved c = λ f again begins k h.
    let a = c.loop-i.a in
    let i = c.loop-i.i in
    let fits : SFits w64 (get_or a (i - c.args.d) 0ℤ) = record { sfits = omega arith } in
    get_or-set_by a i _ (omega arith) k (f k)
    (λ e. to_z-of_z fits ∙ c.loop-i.invariant f again begins _ (omega (arith, c.requires.0))
    ∙ sym (again i c.loop-i.auto.i) ∙ ap f (sym e))
    (λ ne. c.loop-i.invariant f again begins k (omega arith))

pub returns : goal.returns
unfolding entries
returns c = λ f again begins.
    is_firsts _ f c.loop-i.a c.loop-i.auto.a (λ k h. c.loop-i.invariant f again begins k (omega arith))
