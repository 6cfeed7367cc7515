-- `none_in_block`: where no sign has come together so far, no magnitude so far is above h.
use Rattle.std.proofs.Common.{◌≤◌, ℕ, get_or, ℤ, pos, nat_abs, ◌+ℤ◌, ◌-ℤ◌, bit_or, w64, to_z, of_z}
use Rattle.definitions.specs.Steps.{entries}
use Rattle.step_laws.specs.Machine.{seen}
use Rattle.heights.proofs.Looks.{none_more}
use Rattle.entry_steps.specs.Passes.{addable}
use Rattle.peaks.proofs.Gathers.{unsigned_test, unsigned_tested, unsigned_both, both_unsigned, difference_fits, sum_fits}
use Rattle.peaks.proofs.none_in_block.Goals as goal
use Rattle.peaks.proofs.none_in_block.Goals.{At-loop-x}

-- the entry at hand
module _ (c : At-loop-x) where
  abbrev x : ℤ
  x = get_or c.args.block.now c.loop-x.x-index (pos 0)

  small : nat_abs x ≤ addable
  unfolding entries
  small = c.requires.1 c.loop-x.x-index

pub overflow_sub-gathered : goal.overflow_sub-gathered
overflow_sub-gathered c =
    let e = (goal.at.overflow_sub-gathered c).At-loop-x in difference_fits c.args.h (x e) c.requires.0 (small e)

pub overflow_add-gathered : goal.overflow_add-gathered
overflow_add-gathered c =
    let e = (goal.at.overflow_add-gathered c).At-loop-x in sum_fits c.args.h (x e) c.requires.0 (small e)

pub loop-x-preserved : goal.loop-x-preserved
loop-x-preserved c = λ u.
    let e = (goal.at.loop-x-preserved c).At-loop-x in
    let minus : ℕ = of_z w64 (to_z w64 c.args.h -ℤ seen (x e)) in
    let plus : ℕ = of_z w64 (to_z w64 c.args.h +ℤ seen (x e)) in
    let g = c.loop-x.gathered-bits in
    let (before, both) = unsigned_both g (bit_or minus plus) (unsigned_test (bit_or g (bit_or minus plus)) u) in
    let (below, above) = unsigned_both minus plus both in
    none_more (c.loop-x.invariant (unsigned_tested g before))
    (both_unsigned c.args.h (x e) c.requires.0 (small e) below above)
