-- `deliver`: by the form.
use Prim.Native.Nat.{ℕ}
use mathlib.Core.Path.{ap, ◌∙◌}
use mathlib.Core.List.{◌++◌}
use lib.ListN.{drop}
use Rattle.forms.specs.declared.Form.TheVariants.{Whole}
use Rattle.forms.specs.Format.{stored_in, coefficients_in}
use Rattle.forms.proofs.Reading.{length-stored}
use Rattle.reading.proofs.deliver.Goals as goal

pub fill_stored-requires : goal.fill_stored-requires
fill_stored-requires c = rw c.in-Whole.is at c.requires

pub rebuild-requires : goal.rebuild-requires
rebuild-requires c = rw c.in-Half.is at c.requires

pub returns-in-Whole : goal.returns-in-Whole
unfolding coefficients_in
returns-in-Whole c =
    let told = c in
    let bs = told.args.bytes.now in
    rw told.in-Whole.is (c.fill_stored.ensures
    ∙ ap (λ (k : ℕ). stored_in Whole bs ++ drop k told.args.coeffs.now)
    (length-stored Whole bs))

pub returns-in-Half : goal.returns-in-Half
returns-in-Half c = rw c.in-Half.is c.rebuild.ensures
