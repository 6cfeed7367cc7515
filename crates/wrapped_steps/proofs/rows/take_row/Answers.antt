-- `wrapped_steps::rows::take_row` meets its contract. The invariant: the sums of the first q chains are carried on, and
-- of whatever list the accumulate got up to k, it got q further.
use native.Mathlib.Omega.{arith}
use Rattle.wrapped_steps.proofs.Sums.{entry_taken}
use Rattle.wrapped_steps.proofs.rows.take_row.Goals as goal

pub loop-q-preserved : goal.loop-q-preserved
loop-q-preserved g c =
    let t = c.take_entry.ensures in
    let i = c.loop-q.invariant in
    let n = entry_taken i.1 (omega arith) c.requires.0 (omega arith) t.0 t.1 in
    (omega arith, n.0, λ l u. n.1 l (i.2 l u))
