-- `take_bounded` meets its contract: a step that is too long changes nothing, and one whose growth stays within w needs
-- no test (Untested).
use mathlib.Core.Path.{◌≡◌}
use mathlib.Core.Bool.{false}
use Prim.Native.Nat.{ℕ, ◌+◌, ◌*◌, ◌≤◌}
use native.Mathlib.Omega.{arith}
use Rattle.definitions.specs.Steps.{entries, step_over, step_list}
use Rattle.step_laws.specs.Bound.{Bounded}
use Rattle.entry_steps.specs.Sorts.{sort_means}
use Rattle.bounded_steps.proofs.Tested.{known}
use Rattle.bounded_steps.proofs.Untested.{grown, under, long}
use Rattle.bounded_steps.proofs.take_bounded.Goals as goal
use Rattle.bounded_steps.proofs.take_bounded.Goals.{Start, Then-stays_within}

pub returns-then-n-d : goal.returns-then-n-d
returns-then-n-d c =
    long c.args.w (sort_means c.args.sort) c.args.d c.args.bound c.args.a.now c.if-n-d.true c.requires.1

-- the growth stays within w where the test held
module _ (c : Then-stays_within) where
  abbrev start : Start
  start = c.before.before.before.before

  abbrev most : ℕ
  most = start.args.bound * c.times_added-times.result + start.args.bound

  fits : most ≤ start.args.w
  fits = c.stays_within.ensures c.if-stays_within.true

  none : (step_over start.args.w (sort_means start.args.sort) start.args.d start.args.a.now ≡ false)
      × Bounded most (entries (step_list (sort_means start.args.sort) start.args.d start.args.a.now))
  none =
      grown (sort_means start.args.sort) start.args.d start.args.bound start.requires.0 start.args.a.now
      start.requires.1 (c.times_added-times.ensures.1 start.args.bound) start.args.w fits

pub step_or_undo-requires : goal.step_or_undo-requires
step_or_undo-requires c =
    (c.requires.0, omega arith, c.requires.2, (none (goal.at.step_or_undo-requires c).Then-stays_within).0)

pub returns-then-stays_within : goal.returns-then-stays_within
returns-then-stays_within c =
    let q = (goal.at.returns-then-stays_within c).Then-stays_within in
    under c.args.w (sort_means c.args.sort) c.args.d c.args.bound c.args.a.now (none q)
    (known c.step_or_undo.result c.step_or_undo.ensures (none q).0) (λ _. fits q)
