-- `indices` counts the places that it has filled.
use Rattle.std.proofs.Common.{◌≡◌}
use Rattle.trial_lines.proofs.indices.Given as goal

abbrev pub invariant-loop-place : goal.invariant-loop-place
invariant-loop-place l = l.count ≡ l.place-index
