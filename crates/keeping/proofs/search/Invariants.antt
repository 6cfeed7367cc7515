-- `search`: what is left of the search from `at` on is what is left of it from the start (Searching).
use Rattle.std.proofs.Common.{◌≡◌, ◌-◌, length}
use Rattle.keeping.proofs.Searching.{Underway}
use Rattle.keeping.proofs.search.Given as goal

abbrev pub invariant-loop-at : goal.invariant-loop-at
invariant-loop-at l =
    Underway (length l.initial.coeffs) l.shelf l.from l.at × (length l.coeffs ≡ length l.initial.coeffs)

abbrev pub decreases-loop-at : goal.decreases-loop-at
decreases-loop-at l = length l.shelf - l.at
