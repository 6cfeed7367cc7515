-- `take_divisors` meets its contract. The loop's invariant is where a run stands after i divisors (Running).
use Prim.Native.Nat.{ℕ, ◌-◌, ◌+◌, ◌<◌, ◌≤◌}
use mathlib.Core.Path.{◌≡◌, ◌∙◌, ap}
use mathlib.Core.List.{[], ◌∷◌}
use native.Mathlib.Omega.{arith}
use lib.ListN.{length, length-append}
use Rattle.std.specs.Iterator.Adapters.{take_source}
use Rattle.std.proofs.lemmas.Result.{err_from_is_err_and}
use Rattle.definitions.specs.KeptHalf.{half_degree}
use Rattle.kept_half.proofs.Running.{Running, run_start, start_due, due_here, runs_on, stops, standing_length}
use Rattle.kept_half.proofs.Running.{took_all, ran, sum_small}
use Rattle.kept_half.proofs.run.take_divisors.Goals as goal
use Rattle.kept_half.proofs.run.take_divisors.Goals.{After-saturating_sub-additions}

pub overflow_sub-due : goal.overflow_sub-due
overflow_sub-due c = omega (arith, start_due c.args.walk.r c.requires.walk_value.0, c.requires.walk_value.1)

pub loop-divisor-init : goal.loop-divisor-init
loop-divisor-init c =
    let same = c.into_iter-divisor-iterator.ensures.into_iter_gives in
    let from = c.take-divisor-items.ensures in
    rw same (rw from.source record {
      can = c.requires.kept_half_at.walk;
      finite = tt;
      left = omega (arith, from.count);
      here = run_start _ _ _ _ _ _ c.requires.kept_half_at c.requires.walk_value.0;
    })

-- in a turn fewer than j divisors were taken, and more are due
left : (count more i j : ℕ) {due : ℕ} → more + 1 ≡ count → count + i ≡ j → j ≤ due → (i < j) × (i < due)
left count more i j e f g = omega arith

pub take_outlined-requires : goal.take_outlined-requires
take_outlined-requires c =
    let f = c.requires.kept_half_at in
    due_here c.args.w c.args.kind c.args.walk.r f.walk.squarefree f.walk.small f.above c.loop-divisor.invariant.here
    (left _ _ _ _ c.in-Some.ensures.steps.1 c.loop-divisor.invariant.left c.requires.walk_value.1).1 _ _ c.in-Some.ensures.steps.0

pub returns-in_err-told : goal.returns-in_err-told
returns-in_err-told c =
    let f = c.requires.kept_half_at in
    let told = err_from_is_err_and c.from_residual.result c.from_residual.ensures.1 in
    let k = left _ _ _ _ c.in-Some.ensures.steps.1 c.loop-divisor.invariant.left c.requires.walk_value.1 in
    rw told.1
    (stops c.args.w c.args.kind c.args.walk.r f.walk.squarefree f.walk.small f.above c.loop-divisor.invariant.here
    k.1 _ _ c.in-Some.ensures.steps.0 c.sort_for-sort.ensures k.0 c.in_err-told.ensures)

module _ (c : After-saturating_sub-additions) where
  count_is : c.saturating_sub-additions.result ≡ half_degree c.args.kind c.args.walk.r + 1 - c.in-Some.divisor.size
  count_is =
      c.saturating_sub-additions.ensures
      ∙ ap (λ n. n - c.in-Some.divisor.size) (standing_length c.requires.kept_half_at)

  further : Running c.args.w c.args.kind c.args.walk.r (length c.loop-divisor.yielded + 1)
      (c.loop-divisor.additions + c.saturating_sub-additions.result) c.in_ok-told.told.bound (take_source c.next.new.self)
      c.in_ok-told.told.outline c.take_outlined.new.a
  further =
      let f = c.requires.kept_half_at in
      runs_on c.args.w c.args.kind c.args.walk.r f.walk.squarefree f.walk.small f.above c.loop-divisor.invariant.here
      (left _ _ _ _ c.in-Some.ensures.steps.1 c.loop-divisor.invariant.left c.requires.walk_value.1).1 _ _
      c.in-Some.ensures.steps.0 c.sort_for-sort.ensures c.in_ok-told.ensures count_is

pub overflow_add-additions : goal.overflow_add-additions
overflow_add-additions c =
    let f = c.requires.kept_half_at in
    let u = further (goal.at.overflow_add-additions c).After-saturating_sub-additions in
    omega (
      arith,
      u.sum,
      sum_small c.args.kind c.args.walk.r f.walk.squarefree f.walk.small f.above (length c.loop-divisor.yielded + 1),
    )

pub loop-divisor-preserved : goal.loop-divisor-preserved
loop-divisor-preserved c =
    let longer = length-append c.loop-divisor.yielded (c.in-Some.divisor ∷ []) in
    record {
      can = c.in-Some.ensures.goes.keeps;
      finite = tt;
      left = omega (arith, longer, c.in-Some.ensures.steps.1, c.loop-divisor.invariant.left);
      here = rw longer (further (goal.at.loop-divisor-preserved c).After-saturating_sub-additions);
    }

pub write_out-requires : goal.write_out-requires
write_out-requires c = c.loop-divisor.invariant.here.told

pub returns : goal.returns
returns c =
    let f = c.requires.kept_half_at in
    let here = c.loop-divisor.invariant.here in
    let all : length c.loop-divisor.yielded ≡ c.args.j =
    took_all f.walk.squarefree f.walk.small f.above here c.requires.walk_value.1 _ _ c.loop-divisor.invariant.left
    c.in-None.ensures.steps in
    rw (start_due c.args.walk.r c.requires.walk_value.0)
    (ran c.args.w c.args.kind c.args.walk.r c.args.j _ _ _ _ _ _ (rw all at here) c.write_out.ensures)
