-- `put_whole`: what both forms have, and then the other half (Converting).
use mathlib.Core.Path.{ap}
use native.Mathlib.Omega.{arith}
use Rattle.record.specs.Header.{count_in}
use Rattle.record.proofs.Headers.{right}
use Rattle.widths.proofs.Digits.{bytes_each}
use Rattle.definitions.specs.Halves.{half_of}
use Rattle.forms.specs.declared.Form.TheVariants.{Whole, Half}
use Rattle.forms.proofs.Done.{Read_right, looked}
use Rattle.forms.proofs.Reading.{size_in_lem}
use Rattle.conversions.proofs.Converting.{half_least, placed, whole-stored}
use Rattle.conversions.proofs.converter.put_whole.Goals as goal
use Rattle.conversions.proofs.converter.put_whole.Goals.{Start}

good : (s : Start) → Read_right Half s.args.bytes.now (count_in s.args.bytes.now)
good s = looked Half _ s.requires.0

pub put_front-requires : goal.put_front-requires
put_front-requires c =
    let start = c in
    (start.requires.0, omega (arith, start.requires.1, half_least Whole start.args.bytes.now))

pub width_in-w-requires : goal.width_in-w-requires
width_in-w-requires c = (right _ _ (good (goal.at.width_in-w-requires c).Start).header).long

pub count_in-count-requires : goal.count_in-count-requires
count_in-count-requires c = (right _ _ (good (goal.at.count_in-count-requires c).Start).header).long

pub negates_in-requires : goal.negates_in-requires
negates_in-requires c = (right _ _ (good (goal.at.negates_in-requires c).Start).header).long

pub put_other-requires : goal.put_other-requires
put_other-requires c =
    let counted = c in
    let wide = c in
    let start = (goal.at.put_other-requires c).Start in
    let bs = start.args.bytes.now in
    let g = good start in
    let ew = wide.width_in-w.ensures in
    let ek = counted.count_in-count.ensures in (
      rw ew (right _ _ g.header).wide,
      omega (arith, size_in_lem Half bs _ _ ew (ap half_of ek), g.long),
      omega (
        arith,
        size_in_lem Whole bs _ _ ew ek,
        start.requires.1,
        wide.put_front.auto.out,
      ),
    )

pub returns : goal.returns
returns c =
    let negates = c in
    let counted = c in
    let wide = c in
    let front = c in
    let start = c in
    let known = c in
    let bs = start.args.bytes.now in
    whole-stored bs (bytes_each bs (λ i. (known.type_inv.bytes i).fits)) start.requires.0
    start.args.out.now _ _ start.requires.1 front.put_front.ensures
    (placed bs _ _ _ _ _ wide.width_in-w.ensures counted.count_in-count.ensures negates.negates_in.ensures
    c.put_other.ensures)
