-- `middle_in`: no middle, or none that need be 0, is right; else the number that stands there tells (Reading).
use Prim.Native.Nat.{ℕ, suc, ◌+◌, ◌*◌, ◌/◌, ◌%◌, ◌≤◌}
use mathlib.Core.Path.{◌≡◌, sym, ap, ◌∙◌}
use native.Mathlib.Omega.{arith}
use native.Mathlib.Nat.{suc-mul}
use lib.ListN.{length}
use Rattle.definitions.specs.Halves.{half_of}
use Rattle.widths.proofs.Digits.{bytes_each}
use Rattle.record.specs.Held.{number_at}
use Rattle.record.proofs.Headers.{right, in_bounds}
use Rattle.forms.specs.declared.Form.TheVariants.{Half}
use Rattle.forms.specs.Format.{size_in}
use Rattle.widths.proofs.Widths.{few}
use Rattle.forms.proofs.Reading.{count_small, size_in_lem, middle_plain, middle_none, middle_is}
use Rattle.reading.proofs.middle_in.Goals as goal
use Rattle.reading.proofs.middle_in.Goals.{After-count_in-count, Else-count-eq0}

pub width_in-w-requires : goal.width_in-w-requires
width_in-w-requires c = (right _ _ c.requires.0).long

pub count_in-count-requires : goal.count_in-count-requires
count_in-count-requires c = (right _ _ c.requires.0).long

pub negates_in-requires : goal.negates_in-requires
negates_in-requires c = (right _ _ c.requires.0).long

pub returns-then-not-negates_in : goal.returns-then-not-negates_in
returns-then-not-negates_in c =
    middle_plain (goal.at.returns-then-not-negates_in c).After-count_in-count.args.bytes.now
    (sym c.negates_in.ensures ∙ c.if-not-negates_in.true)

pub returns-then-count-eq0 : goal.returns-then-count-eq0
returns-then-count-eq0 c =
    let counted = (goal.at.returns-then-count-eq0 c).After-count_in-count in
    middle_none counted.args.bytes.now
    (ap (λ (k : ℕ). k % 2) (sym counted.count_in-count.ensures) ∙ c.if-count-eq0.true)

-- the middle one is stored, and the bytes before it are few
stored : (c : Else-count-eq0) → let counted = c in
    let w = counted.width_in-w.result in
    (10 + counted.count_in-count.result / 2 * w + w ≤ length counted.args.bytes.now)
    × (counted.count_in-count.result / 2 * w ≤ 524288)
stored c =
    let counted = c in
    let bs = counted.args.bytes.now in
    let known = c in
    let k = counted.count_in-count.result in
    let w = counted.width_in-w.result in
    let wide = counted.width_in-w.ensures in
    let one : half_of k ≡ suc (k / 2) = omega (arith, c.if-count-eq0.false) in
    let whole : 10 + half_of k * w ≡ size_in Half bs =
    size_in_lem Half bs w (half_of k) wide (ap half_of counted.count_in-count.ensures) in
    let p = bytes_each bs (λ i. (known.type_inv.bytes i).fits) in
    let small = count_small _ bs counted.requires.0 p in
    let sum : half_of k * w ≡ k / 2 * w + w = rw one (suc-mul (k / 2) w) in (
      omega (arith, sum, whole, counted.requires.1),
      few (k / 2) w (omega (arith, small, counted.count_in-count.ensures))
          (in_bounds _ bs w wide counted.requires.0).1,
    )

pub overflow_mul-count : goal.overflow_mul-count
overflow_mul-count c = omega (arith, (stored (goal.at.overflow_mul-count c).Else-count-eq0).1)

pub overflow_add-count : goal.overflow_add-count
overflow_add-count c = omega (arith, (stored (goal.at.overflow_add-count c).Else-count-eq0).1)

pub get-requires : goal.get-requires
get-requires c =
    let counted = (goal.at.get-requires c).After-count_in-count in
    (rw counted.width_in-w.ensures (right _ _ counted.requires.0).wide, (stored (goal.at.get-requires c).Else-count-eq0).0)

pub returns : goal.returns
returns c =
    let e = c in
    let counted = (goal.at.returns c).After-count_in-count in
    let there = counted.count_in-count.ensures in
    middle_is counted.args.bytes.now _ _ counted.width_in-w.ensures
    (c.get.ensures.0
    ∙ ap (λ (k : ℕ). number_at counted.width_in-w.result (10 + k / 2 * counted.width_in-w.result)
    counted.args.bytes.now) there)
    (sym e.negates_in.ensures ∙ e.if-not-negates_in.false)
    (λ z. e.if-count-eq0.false (ap (λ (k : ℕ). k % 2) there ∙ z))
