-- `fill`: the entries from n to b hold their heights, and the additions are those of the indices from n to b; one index
-- more is measured in the entries before it, and its height takes the entry in front of those.
use Rattle.std.proofs.Common.{◌≡◌, ◌≤◌, suc, ◌-◌, take, drop}
use Rattle.counting.specs.Census.{from_to, all_additions}
use Rattle.counting.specs.Passes.{heights_of}
use Rattle.counting.proofs.filling.fill.Given as goal

abbrev pub invariant-loop-n : goal.invariant-loop-n
invariant-loop-n l =
    (l.a ≤ l.n) × (l.additions ≡ all_additions (from_to l.n l.b))
    × (take (suc l.b - l.n) (drop l.n l.work) ≡ heights_of (from_to l.n l.b))
