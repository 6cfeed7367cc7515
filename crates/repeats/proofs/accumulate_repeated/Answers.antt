-- `accumulate_repeated` meets its contract: a row's sums are the accumulate's where what lies below it is.
use Prim.Native.Nat.{ℕ, ◌+◌, ◌-◌, ◌%◌, ◌<◌}
use mathlib.Core.Path.{◌≡◌, sym, ◌∙◌, subst}
use mathlib.Core.List.{List}
use native.Mathlib.Omega.{arith}
use native.Mathlib.Nat.{mod-lt}
use lib.ListN.{length}
use lib.IntN.{ℤ}
use Rattle.definitions.specs.Series.{Series}
use Rattle.definitions.specs.Steps.{accumulated, entries}
use Rattle.step_laws.specs.Accumulated.{accumulated_below}
use Rattle.repeats.specs.Repeats.{Again}
use Rattle.repeats.proofs.Repeats.{again_sum}
use Rattle.repeats.proofs.Summing.{first-row, row_sum_lem, next_row_lem, old, old_again, written, written-length}
use Rattle.repeats.proofs.Summing.{fits, all_summed}
use Rattle.repeats.proofs.accumulate_repeated.Goals as goal
use Rattle.repeats.proofs.accumulate_repeated.Goals.{At-loop-from, After-sum_row}

pub loop-from-init : goal.loop-from-init
loop-from-init c = (
  λ f again. first-row c.args.t c.args.d again,
  λ f again begins k h below. begins k h ∙ sym (accumulated_below c.args.d f k h),
)

-- the entries once the first d are written, and what is summed up of them
module _ (at : At-loop-from) where
  abbrev l : List ℤ
  l = at.args.a.now

  abbrev f : Series
  f = old at.args.t at.args.d l at.requires.le_t.0 at.requires.le_t.1 at.requires.le_t.2

  comes : Again at.args.t f
  comes = old_again at.args.t at.args.d l at.requires.le_t.0 at.requires.le_t.1 at.requires.le_t.2

  whole : length at.loop-from.a ≡ length l
  whole =
      at.loop-from.auto.a
      ∙ written-length at.args.t at.args.d l at.requires.le_t.0 at.requires.le_t.1 at.requires.le_t.2 at.repeat.ensures

  so_far : (k : ℕ) → k < at.loop-from.from → k < length l → entries at.loop-from.a k ≡ accumulated at.args.d f k
  so_far k h below =
      at.loop-from.invariant.1 f comes
      (written at.args.t at.args.d l at.requires.le_t.0 at.requires.le_t.1 at.requires.le_t.2 at.repeat.ensures)
      k h (omega (arith, whole, at.loop-from.auto.a))

pub sum_row-requires-clause-by_index : goal.sum_row-requires-clause-by_index
sum_row-requires-clause-by_index c = λ k h i.
    let at = (goal.at.sum_row-requires-clause-by_index c).At-loop-from in
    let rest = mod-lt c.args.d c.requires.le_t.0 in
    let below : k < length (l at) = omega (arith, whole at) in
    rw (row_sum_lem c.args.d (length (l at)) (f at) c.loop-from.a (c.loop-from.from - c.args.d % c.args.t)
    c.loop-from.from (omega arith) (c.loop-from.invariant.0 (f at) (comes at)) (omega arith) c.loop-from.auto.from
    (so_far at) k h (omega (arith, rest)) (omega (arith, rest)) (omega (arith, rest)) below)
    (fits c.args.t c.args.d (l at) c.requires.le_t.0 c.requires.le_t.1 c.requires.le_t.2 c.requires.a_value k
    (omega arith) below)

-- one row more, of whatever comes again and is summed up so far
row-done : (c : After-sum_row) (f : Series) → Again c.args.t f
    → ((k : ℕ) → k < c.loop-from.from → k < length c.loop-from.a → entries c.loop-from.a k ≡ accumulated c.args.d f k)
    → (k : ℕ) → k < c.loop-from.from + (c.args.d - c.args.d % c.args.t) → k < length c.loop-from.a
    → entries c.sum_row.new.a k ≡ accumulated c.args.d f k
row-done c f again below k h b =
    let rest = mod-lt c.args.d c.requires.le_t.0 in
    next_row_lem c.args.d (length c.loop-from.a) f c.loop-from.a (c.loop-from.from - c.args.d % c.args.t)
    c.loop-from.from (omega arith) (c.loop-from.invariant.0 f again) (omega arith) c.loop-from.auto.from below
    c.sum_row.ensures (omega (arith, rest)) (omega (arith, rest)) (omega (arith, rest)) k (omega arith) b

pub loop-from-preserved : goal.loop-from-preserved
loop-from-preserved c =
    let rest = mod-lt c.args.d c.requires.le_t.0 in
    let len = c.loop-from.auto.a in (
      λ f again. subst (λ x. Again x f) (omega (arith, rest))
          (again_sum _ _ (c.loop-from.invariant.0 f again) (first-row c.args.t c.args.d again)),
      λ f again begins k h b. row-done (goal.at.loop-from-preserved c).After-sum_row f again
          (λ j i m. c.loop-from.invariant.1 f again begins j i (omega (arith, len))) k h (omega (arith, len)),
    )

pub returns : goal.returns
returns c =
    let at = (goal.at.returns c).At-loop-from in
    all_summed c.args.t c.args.d (l at) c.requires.le_t.0 c.requires.le_t.1 c.requires.le_t.2 c.loop-from.a (whole at)
    (λ k b. so_far at k (omega (arith, whole at, c.loop-from.auto.a)) b)

-- after the last row
pub returns-2 : goal.returns-2
returns-2 c =
    let at = (goal.at.returns-2 c).At-loop-from in
    let rest = mod-lt c.args.d c.requires.le_t.0 in
    all_summed c.args.t c.args.d (l at) c.requires.le_t.0 c.requires.le_t.1 c.requires.le_t.2 c.sum_row.new.a
    (c.sum_row.auto.a ∙ whole at)
    (λ k b. row-done (goal.at.returns-2 c).After-sum_row (f at) (comes at)
    (λ j i m. so_far at j i (omega (arith, whole at))) k (omega (arith, whole at, c.loop-from.auto.a, rest)) (omega (arith, whole at)))
