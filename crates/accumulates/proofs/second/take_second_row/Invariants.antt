-- `accumulates::second::take_second_row` meets its contract. The loop's invariant: the entries below x are the
-- accumulate's, and tested.
use Prim.Native.Nat.{ℕ, ◌<◌}
use lib.ListN.{length}
use Rattle.definitions.specs.Steps.{accumulated, entries}
use Rattle.entry_steps.specs.Passes.{Split}
use Rattle.chains.specs.Tested.{Found}
use Rattle.accumulates.proofs.second.take_second_row.Given as goal

abbrev pub invariant-loop-x : goal.invariant-loop-x
invariant-loop-x g l =
    Split l.a (length l.initial.a) l.x (accumulated l.d (entries l.initial.a)) (entries l.initial.a)
    × ((k : ℕ) → k < l.x → Found l.w l.d l.initial.a k)
