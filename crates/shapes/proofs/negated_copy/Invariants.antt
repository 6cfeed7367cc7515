-- `negated_copy` meets its contract. The loop's invariant: the entries below i are the copy's, the others old.
use lib.ListN.{length}
use Rattle.definitions.specs.Steps.{entries}
use Rattle.entry_steps.specs.Passes.{Split}
use Rattle.shapes.specs.Shapes.{negated_copy}
use Rattle.shapes.proofs.negated_copy.Given as goal

abbrev pub invariant-loop-i : goal.invariant-loop-i
invariant-loop-i l = Split l.a (length l.initial.a) l.i (negated_copy l.r (entries l.initial.a)) (entries l.initial.a)
