-- `take_wide` meets its contract: what the step tells (Tested).
use native.Mathlib.Nat.{le_refl}
use Rattle.bounded_steps.proofs.Tested.{done}
use Rattle.bounded_steps.proofs.take_wide.Goals as goal

pub returns-then-step_or_undo : goal.returns-then-step_or_undo
returns-then-step_or_undo c =
    rw c.max.ensures (done c.step_or_undo.ensures c.if-step_or_undo.true (le_refl _) c.requires.2)
