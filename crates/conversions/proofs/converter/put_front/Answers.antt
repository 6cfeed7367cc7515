-- `put_front`: the first bytes copied, and the mark of the other form (Converting).
use mathlib.Core.Path.{ap, ◌∙◌}
use native.Mathlib.Omega.{arith}
use Rattle.record.specs.Header.{count_in}
use Rattle.widths.proofs.Digits.{bytes_each}
use Rattle.forms.specs.declared.Form.TheVariants.{Half}
use Rattle.forms.specs.Format.{mark}
use Rattle.forms.proofs.Done.{Read_right, looked}
use Rattle.forms.proofs.Reading.{size_least}
use Rattle.conversions.proofs.Converting.{half_least, front-stored}
use Rattle.conversions.proofs.converter.put_front.Goals as goal
use Rattle.conversions.proofs.converter.put_front.Goals.{Start}

good : (s : Start) → Read_right s.args.from s.args.bytes.now (count_in s.args.bytes.now)
good s = looked _ _ s.requires.0

pub size_in-requires : goal.size_in-requires
size_in-requires c = (_, (good (goal.at.size_in-requires c).Start).header)

pub copy-requires : goal.copy-requires
copy-requires c =
    let sized = c in
    let start = (goal.at.copy-requires c).Start in (
      omega (
        arith,
        sized.size_in.ensures,
        (good start).long,
        half_least start.args.from start.args.bytes.now,
      ),
      omega (arith, sized.size_in.ensures, start.requires.1),
    )

pub bounds-out-1 : goal.bounds-out-1
bounds-out-1 c =
    let copied = c in
    let start = c in
    omega (arith, copied.copy.auto.out, start.requires.1, size_least Half start.args.bytes.now)

pub returns : goal.returns
returns c =
    let copied = c in
    let sized = c in
    let known = c in
    let start = c in
    let bs = start.args.bytes.now in
    front-stored start.args.from bs (bytes_each bs (λ i. (known.type_inv.bytes i).fits)) start.requires.0
    start.args.out.now _ _ _ start.requires.1 sized.size_in.ensures
    (c.mark_of.ensures ∙ ap mark c.other_of.ensures) copied.copy.ensures
