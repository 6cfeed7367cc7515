-- `look` meets its contract. The loop's invariant: no entry that was looked at is larger than what has come together.
use Prim.Native.Nat.{ℕ, ◌<◌, ◌≤◌}
use lib.ListN.{get_or}
use lib.IntN.{nat_abs}
use Rattle.definitions.specs.Integers.{0ℤ}
use Rattle.bounded_steps.proofs.look.Given as goal

abbrev pub invariant-loop-x : goal.invariant-loop-x
invariant-loop-x l = (k : ℕ) → k < l.x-index → nat_abs (get_or l.a k 0ℤ) ≤ l.all
