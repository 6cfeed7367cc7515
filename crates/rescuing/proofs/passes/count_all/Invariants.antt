-- `count_all`: what was counted, and what the rest counts, is that of the whole shelf (Turns).
use Prim.Native.Nat.{◌-◌}
use mathlib.Core.Path.{◌≡◌}
use lib.ListN.{length}
use Rattle.rescuing.proofs.Turns.{Counted}
use Rattle.rescuing.proofs.passes.count_all.Given as goal

abbrev pub invariant-loop-at : goal.invariant-loop-at
invariant-loop-at l =
    Counted (length l.initial.coeffs) l.shelf l.at l.kept l.slots × (length l.coeffs ≡ length l.initial.coeffs)

abbrev pub decreases-loop-at : goal.decreases-loop-at
decreases-loop-at l = length l.shelf - l.at
