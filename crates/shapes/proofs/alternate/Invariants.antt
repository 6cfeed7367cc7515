-- `alternate` meets its contract. The loop's invariant: the entries below the next odd place alternate, the others are
-- old.
use Prim.Native.Nat.{◌+◌, ◌*◌}
use lib.ListN.{length}
use Rattle.definitions.specs.Series.{alternate}
use Rattle.definitions.specs.Steps.{entries}
use Rattle.entry_steps.specs.Passes.{Split}
use Rattle.shapes.proofs.alternate.Given as goal

abbrev pub invariant-loop-k : goal.invariant-loop-k
invariant-loop-k l =
    Split l.a (length l.initial.a) (2 * l.k + 1) (alternate (entries l.initial.a)) (entries l.initial.a)
