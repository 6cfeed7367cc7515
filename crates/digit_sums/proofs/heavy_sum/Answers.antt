-- `heavy_sum`: from the first place on, nothing being carried to it.
use mathlib.Core.Path.{◌∙◌, ap}
use Rattle.definitions.specs.Steps.{entries}
use Rattle.integers.specs.Whole.{zero_⊕}
use Rattle.light_sums.specs.Told.{told}
use Rattle.digit_sums.specs.Digits.{place, number, digits_product}
use Rattle.digit_sums.proofs.heavy_sum.Goals as goal

pub returns : goal.returns
returns c =
    let f = entries c.args.f.now in
    let b = entries c.args.b.now in
    c.from_place.ensures ∙ ap told (zero_⊕ (number (place f b c.args.i) 5 0) ∙ digits_product f b c.args.i)
