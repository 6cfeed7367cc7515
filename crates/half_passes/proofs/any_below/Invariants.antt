-- `any_below`: what was found so far is that of the first i.
use Rattle.std.proofs.Common.{◌≡◌, ℕ, ◌<◌, Bool}
use Rattle.half_passes.specs.Any.{any_to}
use Rattle.half_passes.proofs.any_below.Given as goal

abbrev pub invariant-loop-i : goal.invariant-loop-i
invariant-loop-i g l = (p : ℕ → Bool) → ((i : ℕ) (r : Bool) → i < l.count → goal.F-post g l.is_so i r → r ≡ p i)
    → l.found ≡ any_to p l.i
