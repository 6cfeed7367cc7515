-- `place_sum`: the sums of products of the digits a and k - a, one after the other.
use Prim.Native.Nat.{◌*◌, ◌≤◌}
use mathlib.Core.Path.{◌≡◌}
use lib.IntN.{nat_abs}
use Rattle.definitions.specs.Steps.{entries}
use Rattle.digit_sums.specs.Digits.{place_to}
use Rattle.digit_sums.proofs.place_sum.Given as goal

abbrev pub invariant-loop-a : goal.invariant-loop-a
invariant-loop-a l =
    (l.s ≡ place_to (entries l.f) (entries l.b) l.i l.k l.a) × (nat_abs l.s ≤ l.a * 1152921504606846976)
