-- The cycle of calls {from_place}: the measure is the number of places that are left.
use Prim.Native.Nat.{◌-◌}
use Rattle.digit_sums.proofs.+from_place.Given as goal

abbrev pub decreases-from_place : goal.decreases-from_place
decreases-from_place l = 5 - l.k
