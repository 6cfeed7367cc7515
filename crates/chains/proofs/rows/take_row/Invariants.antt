-- `chains::rows::take_row` meets its contract, which is the loop's invariant: q entries of the row are taken and
-- tested.
use Prim.Native.Nat.{ℕ, ◌-◌, ◌<◌, ◌≤◌}
use Rattle.chains.specs.Chains.{RowTaken}
use Rattle.chains.specs.Tested.{FoundInRow}
use Rattle.chains.proofs.rows.take_row.Given as goal

abbrev pub invariant-loop-q : goal.invariant-loop-q
invariant-loop-q g l =
    (l.q ≤ l.m)
    × RowTaken l.k l.q l.initial.s l.initial.a l.s l.a
    × ((j : ℕ) → j < l.q → FoundInRow l.w l.initial.s l.initial.a l.k j)

abbrev pub decreases-loop-q : goal.decreases-loop-q
decreases-loop-q g l = g.row.N - l.q
