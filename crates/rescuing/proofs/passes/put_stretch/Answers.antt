-- `put_stretch`: two numbers, or none (Turns).
use Prim.Native.Nat.{◌+◌, ◌-◌, ◌≤◌}
use mathlib.Core.Path.{◌≡◌, refl}
use mathlib.Core.List.{[], ◌∷◌}
use native.Mathlib.Omega.{arith}
use native.Mathlib.Numerals.{add-one}
use lib.ListN.{length, length-set}
use Rattle.rescuing.specs.Rescue.{stretch}
use Rattle.rescuing.proofs.Turns.{stretch_empty, stretch_some}
use Rattle.rescuing.proofs.passes.put_stretch.Goals as goal
use Rattle.rescuing.proofs.passes.put_stretch.Goals.{Then-at-start}

two : (c : Then-at-start) → stretch c.args.at (c.args.start - c.args.at)
    ≡ c.args.at ∷ (c.args.start - c.args.at) ∷ []
two c = stretch_some c.args.at (c.args.start - c.args.at) (omega arith)

-- there is room for two
room : (c : Then-at-start) → c.args.slot + 2 ≤ length c.args.list.now
room c = rw (two c) at c.requires

pub bounds-list-slot : goal.bounds-list-slot
bounds-list-slot c = omega (arith, room (goal.at.bounds-list-slot c).Then-at-start)

pub bounds-list-slot-then-at-start : goal.bounds-list-slot-then-at-start
bounds-list-slot-then-at-start c = rw length-set (omega (arith, room (goal.at.bounds-list-slot-then-at-start c).Then-at-start))

pub returns-then-at-start : goal.returns-then-at-start
returns-then-at-start c = record {
  value = rw (two (goal.at.returns-then-at-start c).Then-at-start) refl;
  list_after = rw (two (goal.at.returns-then-at-start c).Then-at-start, add-one) refl;
}

pub returns : goal.returns
returns c =
    let a = c.args in
    let none : stretch a.at (a.start - a.at) ≡ [] = stretch_empty a.at (a.start - a.at) (omega arith) in
    record {
      value = rw none (omega arith);
      list_after = rw none refl;
    }
