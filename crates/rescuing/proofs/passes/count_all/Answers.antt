-- `count_all`: what was counted, and what the rest counts, is that of the whole shelf (Turns).
use Rattle.std.proofs.Common.{◌<◌, length, refl, ◌∙◌, arith}
use Rattle.std.proofs.lemmas.Result.{err_from_is_err_and}
use Rattle.rescuing.proofs.Turns.{counted_none, counted-cramped, counted-turn, counted-all, counts_small, bounds}
use Rattle.rescuing.proofs.passes.count_all.Goals as goal

pub loop-at-init : goal.loop-at-init
loop-at-init c = (counted_none _ _, refl)

pub returns-in_err-found-clause-count_is : goal.returns-in_err-found-clause-count_is
returns-in_err-found-clause-count_is c =
    let p = err_from_is_err_and c.from_residual.result c.from_residual.ensures.1 in
    let is = rw c.loop-at.invariant.1 at c.in_err-found.ensures.next_is in
    rw p.1 (counted-cramped _ _ _ _ _ c.loop-at.invariant.0 (omega arith) is)

pub overflow_add-slots : goal.overflow_add-slots
overflow_add-slots c =
    let within : c.loop-at.at < length c.args.shelf.now = omega arith in
    let is = rw c.loop-at.invariant.1 at c.in_ok-found.ensures.next_is in
    let goes = counted-turn _ _ _ _ _ c.loop-at.invariant.0 within _ is in
    record { fits = omega (arith, c.slots_for-slots.ensures, (counts_small _ _ _ _ _ goes).1) }

pub overflow_add-kept : goal.overflow_add-kept
overflow_add-kept c =
    let within : c.loop-at.at < length c.args.shelf.now = omega arith in
    let is = rw c.loop-at.invariant.1 at c.in_ok-found.ensures.next_is in
    let goes = counted-turn _ _ _ _ _ c.loop-at.invariant.0 within _ is in
    record { fits = omega (arith, (counts_small _ _ _ _ _ goes).0) }

pub loop-at-smaller : goal.loop-at-smaller
loop-at-smaller c =
    let within : c.loop-at.at < length c.args.shelf.now = omega arith in
    let is = rw c.loop-at.invariant.1 at c.in_ok-found.ensures.next_is in
    let b = bounds _ _ _ within _ is in
    omega (arith, b.2, b.3)

pub loop-at-preserved : goal.loop-at-preserved
loop-at-preserved c =
    let within : c.loop-at.at < length c.args.shelf.now = omega arith in
    let is = rw c.loop-at.invariant.1 at c.in_ok-found.ensures.next_is in (
      rw c.slots_for-slots.ensures (counted-turn _ _ _ _ _ c.loop-at.invariant.0 within _ is),
      c.next_from.ensures.coeffs_len_unchanged ∙ c.loop-at.invariant.1,
    )

pub returns-clause-count_is : goal.returns-clause-count_is
returns-clause-count_is c =
    let all = counted-all _ _ _ _ _ c.loop-at.invariant.0 c.loop-at-test.false in
    record { free = all.2; kept = all.0; slots = all.1 }
