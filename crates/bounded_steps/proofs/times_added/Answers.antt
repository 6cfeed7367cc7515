-- `times_added` meets its contract: the growth of either sort, as a product and a sum (Untested).
use native.Mathlib.Omega.{arith}
use Rattle.bounded_steps.proofs.Untested.{comb_more, accumulate_more, some_times}
use Rattle.bounded_steps.proofs.times_added.Goals as goal

pub returns-in-Comb : goal.returns-in-Comb
returns-in-Comb c = rw c.in-Comb.is (omega arith, λ b. comb_more _ _ b)

pub returns-in-Accumulate : goal.returns-in-Accumulate
returns-in-Accumulate c =
    let p = c.requires in
    rw c.in-Accumulate.is (some_times p.0 p.1, λ b. accumulate_more _ _ b)
