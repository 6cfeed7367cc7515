-- `steps::Step::apply` meets its contract: each way out is one of the ways that a step can go (`Told`).
use mathlib.Core.Path.{◌≡◌, ◌∙◌}
use mathlib.Core.Bool.{false}
use Prim.Native.Nat.{ℕ, ◌≤◌}
use native.Mathlib.Omega.{arith}
use lib.IntN.{pos, nat_abs}
use Rattle.definitions.specs.Steps.{below_one}
use Rattle.step_laws.specs.Told.{told-zero, told_large, told_limit, told_over, told_done, told-long}
use Rattle.step_laws.specs.Machine.{seen, below_one_lem}
use Rattle.step_laws.specs.WorkingLimit.{Workable, read_limit}
use Rattle.entry_steps.specs.Sorts.{sort_means}
use Rattle.steps.proofs.Step.apply.Goals as goal
use Rattle.steps.proofs.Step.apply.Goals.{After-take_bounded, Else-w-lt1, Start}

pub returns-then-size-eq0 : goal.returns-then-size-eq0
returns-then-size-eq0 c =
    let t = told-zero c.args.w (sort_means c.args.self.sort) c.args.self.size c.args.a.now c.if-size-eq0.true in record {
      code_value = rw c.refused.ensures t.code;
      count_value = rw c.refused.ensures t.count;
      a_after = t.leaves;
    }

pub returns-then-size-gt65535 : goal.returns-then-size-gt65535
returns-then-size-gt65535 c =
    let t = told_large c.args.w (sort_means c.args.self.sort) c.args.self.size c.args.a.now c.if-size-gt65535.true in record {
      code_value = rw c.refused-then-size-gt65535.ensures t.code;
      count_value = rw c.refused-then-size-gt65535.ensures t.count;
      a_after = t.leaves;
    }

pub returns-then-w-lt1 : goal.returns-then-w-lt1
returns-then-w-lt1 c =
    let t = told_limit c.args.w (sort_means c.args.self.sort) c.args.self.size c.args.a.now (omega arith)
    c.if-size-gt65535.false (below_one_lem c.args.w c.ranges.w c.if-w-lt1.true) in record {
      code_value = rw c.refused-then-w-lt1.ensures t.code;
      count_value = rw c.refused-then-w-lt1.ensures t.count;
      a_after = t.leaves;
    }

-- the size and the limit are good
module _ (q : Else-w-lt1) where
  abbrev start : Start
  start = q.before.before.before

  one : 1 ≤ start.args.self.size
  one = omega arith

  most : start.args.self.size ≤ 65535
  most = q.if-size-gt65535.false

  good : below_one start.args.w ≡ false
  good = below_one_lem start.args.w start.ranges.w q.if-w-lt1.false

  limit : {m : ℕ} → m ≡ nat_abs (seen start.args.w)
      → (m ≡ nat_abs start.args.w) × (pos m ≡ start.args.w) × Workable m
  limit = read_limit start.args.w start.ranges.w good

pub returns-then-n-size : goal.returns-then-n-size
returns-then-n-size c =
    let q = (goal.at.returns-then-n-size c).Else-w-lt1 in
    let t = told-long c.args.w (sort_means c.args.self.sort) c.args.self.size c.args.a.now (one q) (most q) (good q)
    c.if-n-size.true in record { code_value = t.code; count_value = t.count; a_after = t.leaves }

-- the step was taken or not, under the magnitude of w
module _ (t : After-take_bounded) where
  abbrev asked : Else-w-lt1
  asked = t.before.before.before.before.before

  is_limit : t.unsigned_abs.result ≡ nat_abs (start asked).args.w
  is_limit = (limit asked t.unsigned_abs.ensures.value).0

pub returns-in-Ok : goal.returns-in-Ok
returns-in-Ok c =
    let at = (goal.at.returns-in-Ok c).After-take_bounded in
    let q = asked at in
    let taken = c.in-Ok.ensures in
    let t = told_done c.args.w (sort_means c.args.self.sort) c.args.self.size c.args.a.now (one q) (most q) (good q)
    (rw (← is_limit at) taken.over) in record {
      code_value = t.code;
      count_value = t.count;
      a_after = taken.leaves ∙ t.leaves;
    }

pub returns-in-Err : goal.returns-in-Err
returns-in-Err c =
    let at = (goal.at.returns-in-Err c).After-take_bounded in
    let q = asked at in
    let kept = c.in-Err.ensures in
    let t = told_over c.args.w (sort_means c.args.self.sort) c.args.self.size c.args.a.now (one q) (most q) (good q)
    (rw (← is_limit at) kept.over) in record {
      code_value = rw c.refused-in-Err.ensures t.code;
      count_value = rw c.refused-in-Err.ensures t.count;
      a_after = kept.leaves ∙ t.leaves;
    }
