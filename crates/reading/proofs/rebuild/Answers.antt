-- `rebuild`: the store of the half, and then the mirror (Rebuilding).
use Prim.Native.Nat.{ℕ, ◌≤◌}
use mathlib.Core.Path.{◌≡◌, sym, ap, ap₂, ◌∙◌}
use mathlib.Core.Bool.{Bool}
use mathlib.Core.List.{◌++◌}
use native.Mathlib.Omega.{arith}
use borrow.Author.Tests.{ltb-false}
use lib.ListN.{length, drop}
use Rattle.definitions.specs.Answer.{height_of}
use Rattle.definitions.specs.Steps.{largest}
use Rattle.definitions.specs.Halves.{half_of, rebuilt}
use Rattle.record.specs.Header.{count_in}
use Rattle.record.proofs.Headers.{right}
use Rattle.forms.specs.declared.Form.TheVariants.{Half}
use Rattle.forms.specs.Format.{stored_in, coefficients_in}
use Rattle.forms.proofs.Done.{Read_right, read_right, stored_fits}
use Rattle.forms.proofs.Reading.{length-stored}
use Rattle.reading.proofs.Rebuilding.{length_filled, length_part, part_inside, whole-made}
use Rattle.reading.proofs.rebuild.Goals as goal
use Rattle.reading.proofs.rebuild.Goals.{After-count_in-count, Start}

good : (s : Start) → Read_right Half s.args.bytes.now (length s.args.coeffs.now)
good s = read_right Half _ _ s.requires

-- the half is as long as it has to be, and each of it can be negated
long : (s : Start) → length (stored_in Half s.args.bytes.now) ≡ half_of (count_in s.args.bytes.now)
long s = length-stored Half s.args.bytes.now

low : (s : Start) → height_of (stored_in Half s.args.bytes.now) ≤ largest
low s = ltb-false largest _ (stored_fits Half s.args.bytes.now _ (good s)).within

pub count_in-count-requires : goal.count_in-count-requires
count_in-count-requires c = (right _ _ (good (goal.at.count_in-count-requires c).Start).header).long

-- what stands in the buffer, from the place past the reading of the count
abbrev from : After-count_in-count → Start
from c = c.before.before.before.before.before.before

half_is : (c : After-count_in-count) → length (stored_in Half (from c).args.bytes.now) ≡ half_of c.count_in-count.result
half_is c = long (from c) ∙ ap half_of (sym c.count_in-count.ensures)

fits : (c : After-count_in-count) → c.count_in-count.result ≤ length (from c).args.coeffs.now
fits c = omega (arith, c.count_in-count.ensures, (good (from c)).fits)

pub slice_bounds-mirror-end : goal.slice_bounds-mirror-end
slice_bounds-mirror-end c =
    omega (
      arith,
      fits (goal.at.slice_bounds-mirror-end c).After-count_in-count,
      length_filled _ (stored_in Half (from (goal.at.slice_bounds-mirror-end c).After-count_in-count).args.bytes.now) (from (goal.at.slice_bounds-mirror-end c).After-count_in-count).args.coeffs.now _ (half_is (goal.at.slice_bounds-mirror-end c).After-count_in-count) (fits (goal.at.slice_bounds-mirror-end c).After-count_in-count)
          c.fill_stored.ensures,
    )

pub slice_bounds-mirror-end-2 : goal.slice_bounds-mirror-end-2
slice_bounds-mirror-end-2 c =
    let k = (goal.at.slice_bounds-mirror-end-2 c).After-count_in-count in
    sym (length_part _ (stored_in Half (from k).args.bytes.now) (from k).args.coeffs.now _ (half_is k) (fits k)
    k.fill_stored.ensures)

pub negates_in-requires : goal.negates_in-requires
negates_in-requires c = (right _ _ (good (from (goal.at.negates_in-requires c).After-count_in-count)).header).long

pub mirror-requires : goal.mirror-requires
mirror-requires c =
    let k = (goal.at.mirror-requires c).After-count_in-count in
    part_inside _ _ _ _ (half_is k) (fits k) k.fill_stored.ensures (low (from k))

pub returns : goal.returns
unfolding coefficients_in
returns c =
    let k = (goal.at.returns c).After-count_in-count in
    let bs = (from k).args.bytes.now in
    whole-made k.count_in-count.result (stored_in Half bs) (from k).args.coeffs.now _ (half_is k) (fits k)
    k.fill_stored.ensures c.negates_in.result c.mirror.new.a
    c.mirror.ensures
    ∙ ap₂ (λ (s : Bool) (n : ℕ). rebuilt s n (stored_in Half bs) ++ drop n (from k).args.coeffs.now)
    c.negates_in.ensures k.count_in-count.ensures
