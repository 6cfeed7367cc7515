-- `take_narrow` meets its contract: whole under a limit that keeps the entries small, and so under w (Tested).
use native.Mathlib.Omega.{arith}
use Rattle.bounded_steps.proofs.Tested.{done}
use Rattle.bounded_steps.proofs.take_narrow.Goals as goal

pub returns-then-step_or_undo : goal.returns-then-step_or_undo
returns-then-step_or_undo c =
    rw c.max.ensures
    (done c.step_or_undo.ensures c.if-step_or_undo.true (omega (arith, c.min-most.ensures)) c.requires.le_d.2)
