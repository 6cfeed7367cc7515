-- `wrapped_steps::rows::known_rows` meets its contract. The invariant: the accumulate got up to k, where a row begins,
-- and the sums are the row before.
use native.Mathlib.Omega.{arith}
use Rattle.wrapped_steps.proofs.Passes.{start_up}
use Rattle.wrapped_steps.proofs.Sums.{carried_first}
use Rattle.wrapped_steps.proofs.rows.known_rows.Goals as goal

pub loop-a-init : goal.loop-a-init
loop-a-init g c =
    (start_up g.row.N c.args.a.now c.requires.1, carried_first (omega arith) c.first_row.ensures)
