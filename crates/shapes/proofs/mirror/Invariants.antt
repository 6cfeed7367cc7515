-- `mirror` meets its contract. The loop's invariant: the entries below i are the mirror's, the others old.
use Rattle.definitions.specs.Halves.{mirrored_up}
use Rattle.definitions.specs.Steps.{entries}
use Rattle.entry_steps.specs.Passes.{Split}
use Rattle.shapes.proofs.mirror.Given as goal

abbrev pub invariant-loop-i : goal.invariant-loop-i
invariant-loop-i l = Split l.a l.n l.i (mirrored_up l.negate l.n (entries l.initial.a)) (entries l.initial.a)
