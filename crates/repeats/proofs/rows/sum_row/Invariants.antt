-- `sum_row` meets its contract. The loop's invariant: summed up to k.
use Rattle.repeats.specs.Repeats.{SummedTo}
use Rattle.repeats.proofs.rows.sum_row.Given as goal

abbrev pub invariant-loop-k : goal.invariant-loop-k
invariant-loop-k l = SummedTo l.x l.d l.from l.k l.initial.a l.a
