-- `accumulates::back::undo` meets its contract: where one group was all chains, all before `stop` was taken,
-- and is put back in one range.
use Prim.Native.Nat.{ℕ}
use mathlib.Core.Path.{◌≡◌}
use mathlib.Core.Bool.{true}
use native.Mathlib.Omega.{arith}
use lib.ListN.{length}
use Rattle.definitions.specs.Steps.{entries}
use Rattle.entry_steps.specs.Passes.{Split}
use Rattle.accumulates.specs.Stopped.{is_taken}
use Rattle.accumulates.proofs.PutBack.{none_back, taken_back, range_back, all_back, early_taken}
use Rattle.accumulates.proofs.back.undo.Goals as goal

pub put_back-requires-clause-by_index : goal.put_back-requires-clause-by_index
put_back-requires-clause-by_index c = λ y low high.
    let p = c.args in
    let q = c.requires in
    let s = q.5.stopped in
    let begun : Split p.a.now (length p.a.now) (length p.a.now) (entries p.a.now) (entries q.5.before) =
    none_back p.a.now (entries q.5.before) (omega arith) in
    let here : is_taken p.d p.full p.to p.stop y ≡ true =
    (early_taken p.d p.full p.to p.stop y q.0 (omega arith) (omega arith)).0 high in
    rw (taken_back s (length p.a.now) y begun (omega (arith, q.4)) low (omega (arith, q.4)) here)
    (s.fit y low (omega (arith, q.4, s.len)) here)

pub returns-then-to-full : goal.returns-then-to-full
returns-then-to-full c = λ l s.
    let p = c.args in
    let q = c.requires in
    let here = λ (y : ℕ). early_taken p.d p.full p.to p.stop y q.0 (omega arith) (omega arith) in
    all_back s
    (range_back s (length p.a.now) (none_back p.a.now (entries l) (omega arith)) c.put_back.ensures (omega arith) q.3 q.4
    (λ y _ high _. (here y).0 high) (λ y _ late _ _. (here y).1 late))
    (omega arith)
