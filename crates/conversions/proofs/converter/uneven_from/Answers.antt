-- `uneven_from`: a half record always has its whole; of a whole one the halves are compared.
use mathlib.Core.Path.{ap₂, ◌∙◌}
use native.Mathlib.Omega.{arith}
use Rattle.definitions.specs.Halves.{uneven}
use Rattle.record.specs.Header.{count_in}
use Rattle.record.proofs.Headers.{right}
use Rattle.forms.specs.declared.Form.TheVariants.{Whole}
use Rattle.forms.specs.Format.{coefficients_in}
use Rattle.forms.proofs.Done.{Read_right, looked, stored_fits}
use Rattle.forms.proofs.Reading.{size_in_lem}
use Rattle.conversions.proofs.Converting.{stored_as}
use Rattle.conversions.proofs.converter.uneven_from.Goals as goal
use Rattle.conversions.proofs.converter.uneven_from.Goals.{In-Whole}

good : (c : In-Whole) → let start = c in
    Read_right Whole start.args.bytes.now (count_in start.args.bytes.now)
good c = looked Whole _ (rw c.in-Whole.is at c.requires)

pub width_in-requires : goal.width_in-requires
width_in-requires c = (right _ _ (good (goal.at.width_in-requires c).In-Whole).header).long

pub count_in-requires : goal.count_in-requires
count_in-requires c = (right _ _ (good (goal.at.count_in-requires c).In-Whole).header).long

pub negates_in-requires : goal.negates_in-requires
negates_in-requires c = (right _ _ (good (goal.at.negates_in-requires c).In-Whole).header).long

pub uneven_in-requires : goal.uneven_in-requires
uneven_in-requires c =
    let counted = c in
    let wide = c in
    let told = (goal.at.uneven_in-requires c).In-Whole in
    let bs = told.args.bytes.now in
    let g = good told in
    let ew = wide.width_in.ensures in
    let ek = counted.count_in.ensures in (
      rw ew (right _ _ g.header).wide,
      omega (arith, size_in_lem Whole bs _ _ ew ek, g.long),
      rw (stored_as Whole bs _ _ ew ek, ew) (stored_fits Whole bs _ g).takes,
    )

pub returns-in-Whole : goal.returns-in-Whole
unfolding coefficients_in
returns-in-Whole c =
    let counted = c in
    let told = c in
    rw told.in-Whole.is
    (c.uneven_in.ensures
    ∙ ap₂ uneven c.negates_in.ensures
    (stored_as Whole told.args.bytes.now _ _ counted.width_in.ensures
    counted.count_in.ensures))
