-- `write_all`: what was written, and what is to be written of the rest, is what is written of the whole shelf (Turns).
use Prim.Native.Nat.{◌-◌}
use mathlib.Core.Path.{◌≡◌}
use lib.ListN.{length}
use Rattle.rescuing.proofs.Turns.{Counted, Wrote}
use Rattle.rescuing.proofs.passes.write_all.Given as goal

abbrev pub invariant-loop-at : goal.invariant-loop-at
invariant-loop-at l =
    Counted (length l.initial.coeffs) l.shelf l.at l.kept l.slots × Wrote l.shelf l.at l.kept l.slots l.initial.out l.initial.list l.out l.list
    × (length l.coeffs ≡ length l.initial.coeffs)

abbrev pub decreases-loop-at : goal.decreases-loop-at
decreases-loop-at l = length l.shelf - l.at
