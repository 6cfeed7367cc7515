-- `accumulate_of_repeated` meets its contract: where the growth stays within w no value passes it (bounded's Untested),
-- and one pass makes what the step makes of all entries.
use Prim.Native.Nat.{ℕ, ◌+◌, ◌*◌, ◌≤◌}
use mathlib.Core.Path.{◌≡◌, refl, ◌∙◌, ap}
use mathlib.Core.Bool.{false}
use mathlib.Core.List.{List}
use native.Mathlib.Omega.{arith}
use lib.IntN.{ℤ}
use Rattle.definitions.specs.Steps.{accumulate, entries, largest, step_over, step_list}
use Rattle.step_laws.specs.Bound.{Bounded, growth}
use Rattle.bounded_steps.proofs.Untested.{grown, under}
use Rattle.outlined_steps.specs.Outlines.{outlined}
use Rattle.outlined_steps.proofs.Outlining.{repeats_all, outlined-length, whole-step}
use Rattle.outlined_steps.proofs.accumulate_of_repeated.Goals as goal
use Rattle.outlined_steps.proofs.accumulate_of_repeated.Goals.{Start, Then-stays_within}

-- the growth stays within w where the test held
module _ (c : Then-stays_within) where
  abbrev p : Start
  p = c.before.before.before

  abbrev all : List ℤ
  all = outlined p.args.at.outline p.args.a.now

  abbrev most : ℕ
  most = p.args.at.bound * c.times_added-times.result + p.args.at.bound

  inside : most ≤ p.args.w
  inside = c.stays_within.ensures c.if-stays_within.true

  none : (w : ℕ) → most ≤ w → (step_over w accumulate p.args.d all ≡ false)
      × Bounded most (entries (step_list accumulate p.args.d all))
  none =
      grown accumulate p.args.d p.args.at.bound p.requires.0.size all p.requires.0.bounded
      (ap (λ n. growth accumulate p.args.d n p.args.at.bound) (outlined-length p.args.at.outline p.args.a.now)
      ∙ c.times_added-times.ensures.1 p.args.at.bound)

pub accumulate_repeated-requires-clause-a_value : goal.accumulate_repeated-requires-clause-a_value
accumulate_repeated-requires-clause-a_value c =
    let q = (goal.at.accumulate_repeated-requires-clause-a_value c).Then-stays_within in
    rw (repeats_all c.args.at.outline c.args.a.now c.requires.1)
    (none q largest (omega (arith, inside q, c.requires.0.good.1))).0

pub returns-then-stays_within : goal.returns-then-stays_within
returns-then-stays_within c =
    let q = (goal.at.returns-then-stays_within c).Then-stays_within in
    whole-step c.requires.0
    (under c.args.w accumulate c.args.d c.args.at.bound (all q) (none q c.args.w (inside q))
    (c.accumulate_repeated.ensures
    ∙ ap (step_list accumulate c.args.d) (repeats_all c.args.at.outline c.args.a.now c.requires.1)) (λ _. inside q))
    refl
