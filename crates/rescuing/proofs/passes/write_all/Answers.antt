-- `write_all`: what was written, and what is to be written of the rest, is what is written of the whole shelf (Turns).
use Rattle.std.proofs.Common.{◌≡◌, ℕ, ◌+◌, ◌<◌, length, refl, ◌∙◌, ap, arith}
use Rattle.rescuing.specs.Passes.{FoundIs}
use Rattle.rescuing.proofs.Turns.{Counted, Wrote, counted_none, counted-turn, counted-all, wrote_none, wrote_turn, wrote_all}
use Rattle.rescuing.proofs.Turns.{not-cramped, found_ok, found_in, bounds, size_is}
use Rattle.rescuing.proofs.Codes.{fits}
use Rattle.rescuing.proofs.passes.write_all.Goals as goal

pub loop-at-init : goal.loop-at-init
loop-at-init c = (counted_none _ _, wrote_none _ _ _, refl)

pub unwrap-found-requires : goal.unwrap-found-requires
unwrap-found-requires c =
    let within : c.loop-at.at < length c.args.shelf.now = omega arith in
    let free = not-cramped _ _ _ within (c.loop-at.invariant.0.cramps ∙ (fits _ _ _ _ c.requires).free) in
    found_ok _ _ _ free _ (rw c.loop-at.invariant.2 at c.next_from.ensures.next_is)

pub put_stretch-slots-requires : goal.put_stretch-slots-requires
put_stretch-slots-requires c =
    let within : c.loop-at.at < length c.args.shelf.now = omega arith in
    let is = found_in _ _ _ c.unwrap-found.ensures (rw c.loop-at.invariant.2 at c.next_from.ensures.next_is) in
    let goes = counted-turn _ _ _ _ _ c.loop-at.invariant.0 within _ is in
    omega (arith, goes.lists, (fits _ _ _ _ c.requires).numbers, c.loop-at.invariant.1.list_long)

pub slice_bounds-put_record-end : goal.slice_bounds-put_record-end
slice_bounds-put_record-end c =
    let within : c.loop-at.at < length c.args.shelf.now = omega arith in
    let is = found_in _ _ _ c.unwrap-found.ensures (rw c.loop-at.invariant.2 at c.next_from.ensures.next_is) in
    (bounds _ _ _ within _ is).2

pub put_record-kept-requires : goal.put_record-kept-requires
put_record-kept-requires c =
    let within : c.loop-at.at < length c.args.shelf.now = omega arith in
    let is = found_in _ _ _ c.unwrap-found.ensures (rw c.loop-at.invariant.2 at c.next_from.ensures.next_is) in
    let goes = counted-turn _ _ _ _ _ c.loop-at.invariant.0 within _ is in
    omega (
      arith,
      size_is _ _ _ within _ is,
      goes.keeps,
      (fits _ _ _ _ c.requires).bytes,
      c.loop-at.invariant.1.out_long,
    )

pub loop-at-smaller : goal.loop-at-smaller
loop-at-smaller c =
    let within : c.loop-at.at < length c.args.shelf.now = omega arith in
    let is = found_in _ _ _ c.unwrap-found.ensures (rw c.loop-at.invariant.2 at c.next_from.ensures.next_is) in
    let b = bounds _ _ _ within _ is in
    omega (arith, b.2, b.3)

pub loop-at-preserved : goal.loop-at-preserved
loop-at-preserved c =
    let within : c.loop-at.at < length c.args.shelf.now = omega arith in
    let is = found_in _ _ _ c.unwrap-found.ensures (rw c.loop-at.invariant.2 at c.next_from.ensures.next_is) in
    let stretched = c.put_stretch-slots.ensures in
    let recorded = c.put_record-kept.ensures in
    let size = size_is _ _ _ within _ is in (
      rw (stretched.value, recorded.value, size) (counted-turn _ _ _ _ _ c.loop-at.invariant.0 within _ is),
      rw (stretched.value, recorded.value, size)
          (wrote_turn _ _ _ _ _ _ _ _ _ c.loop-at.invariant.1 within _ is _ _ recorded.out_after stretched.list_after),
      c.next_from.ensures.coeffs_len_unchanged ∙ c.loop-at.invariant.2,
    )

pub returns-clause-kept_value : goal.returns-clause-kept_value
returns-clause-kept_value c =
    let all = counted-all _ _ _ _ _ c.loop-at.invariant.0 c.loop-at-test.false in (all.0, all.1)

pub returns-clause-out_after : goal.returns-clause-out_after
returns-clause-out_after c = (wrote_all 0 _ _ _ _ _ _ _ _ c.loop-at.invariant.1 c.loop-at-test.false).0

pub returns-clause-list_after : goal.returns-clause-list_after
returns-clause-list_after c = (wrote_all 0 _ _ _ _ _ _ _ _ c.loop-at.invariant.1 c.loop-at-test.false).1
