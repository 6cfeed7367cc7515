-- `combs::undo` meets its contract. The invariant: of whatever list the comb got down to `from`, it is taken
-- back to i.
use native.Mathlib.Omega.{arith}
use Rattle.combs.proofs.CombedTo.{not_begun}
use Rattle.combs.proofs.TestedTo.{read_back, back_fits}
use Rattle.combs.proofs.undo.Goals as goal

pub step_entry-requires : goal.step_entry-requires
step_entry-requires c =
    let p = c.loop-i.invariant c.requires.1.before c.requires.1.read in
    (p.done.from, omega arith, back_fits p c.requires.0 (omega (arith, c.requires.1.read.done.split.len)))

pub loop-i-preserved : goal.loop-i-preserved
loop-i-preserved c = λ l p.
    rw c.step_entry.ensures
    (read_back (c.loop-i.invariant l p) c.requires.0 (omega (arith, p.done.split.len)))

pub returns : goal.returns
returns c = λ l p. not_begun (c.loop-i.invariant l p).done (omega (arith, p.done.split.len))
