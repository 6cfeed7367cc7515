-- `wrapped_steps::rows::take_row` meets its contract. The invariant: the sums of the first q chains are carried on, and
-- of whatever list the accumulate got up to k, it got q further.
use mathlib.Core.Path.{◌≡◌}
use mathlib.Core.List.{List}
use Prim.Native.Nat.{◌+◌}
use lib.ListN.{length}
use lib.IntN.{ℤ}
use Rattle.wrapped_steps.specs.Upward.{UpTo}
use Rattle.wrapped_steps.specs.Rows.{Carried}
use Rattle.wrapped_steps.proofs.rows.take_row.Given as goal

abbrev pub invariant-loop-q : goal.invariant-loop-q
invariant-loop-q g v =
    (length v.s ≡ g.row.N)
    × Carried g.row.N v.k v.q v.s v.a
    × ((l : List ℤ) → UpTo g.row.N l v.initial.a v.k → UpTo g.row.N l v.a (v.k + v.q))
