-- `has_half`: the first half of its polynomial, and the record's own halves (Halving).
use Rattle.std.proofs.Common.{◌≡◌, ℕ, sym, ◌∙◌, ap, ap₂, drop, not, false, length-take-le, arith}
use Rattle.definitions.specs.Halves.{half_of, uneven}
use Rattle.widths.specs.Numbers.{coefficients_at}
use Rattle.widths.proofs.Digits.{bytes_each}
use Rattle.keeping.proofs.Comparing.{header, good_in}
use Rattle.keeping.proofs.Halving.{counted-degree, stored-right, comparable_half, half_unlike, half_stands}
use Rattle.keeping.proofs.Halving.{half-front, half-height}
use Rattle.keeping.proofs.same.has_half.Goals as goal

pub count_in-count-requires : goal.count_in-count-requires
count_in-count-requires c = (header _ c.requires.0).long

pub index_in-requires : goal.index_in-requires
index_in-requires c = (header _ c.requires.0).long

pub first_half-height-requires : goal.first_half-height-requires
first_half-height-requires c =
    let bs = c.args.bytes.now in
    let good = c.requires.0 in
    rw (c.index_in.ensures.0, c.count_in-count.ensures) (
      c.requires.3,
      good_in bs (bytes_each bs (λ i. (c.type_inv.bytes i).fits)) good,
      c.requires.4,
      length-take-le _ _ (omega (arith, c.requires.1, (header bs good).count))
          ∙ ap half_of (counted-degree bs good c.requires.2),
    )

pub stands_in-requires-clause-fits : goal.stands_in-requires-clause-fits
stands_in-requires-clause-fits c =
    let bs = c.args.bytes.now in
    let bytes = bytes_each bs (λ i. (c.type_inv.bytes i).fits) in
    let (good, _, kind, _, above) = c.requires in
    let n = c.index_in.ensures.0 in
    let made = c.first_half-height.ensures in
    comparable_half bs bytes good kind above _ (half-height bs bytes good kind above _ n _ made.value) _
    (half-front bs bytes good kind above _ n _ (ap half_of c.count_in-count.ensures) _ _ made.b_after)

pub width_in-requires : goal.width_in-requires
width_in-requires c = (header _ c.requires.0).long

pub uneven_in-requires : goal.uneven_in-requires
uneven_in-requires c =
    stored-right c.args.bytes.now c.requires.0 _ _ c.width_in.ensures c.count_in-count.ensures

pub returns-then-stands_in-clause-value : goal.returns-then-stands_in-clause-value
returns-then-stands_in-clause-value c =
    let bs = c.args.bytes.now in
    let bytes = bytes_each bs (λ i. (c.type_inv.bytes i).fits) in
    let (good, _, kind, _, above) = c.requires in
    let n = c.index_in.ensures.0 in
    let made = c.first_half-height.ensures in
    ap not (c.uneven_in.ensures
    ∙ ap₂ (λ (w k : ℕ). uneven false (coefficients_at w k (drop 10 bs))) c.width_in.ensures c.count_in-count.ensures)
    ∙ half_stands bs bytes good kind above _ (half-height bs bytes good kind above _ n _ made.value) _
    (half-front bs bytes good kind above _ n _ (ap half_of c.count_in-count.ensures) _ _ made.b_after)
    (sym c.stands_in.ensures ∙ c.if-stands_in.true)

pub returns-else-stands_in-clause-value : goal.returns-else-stands_in-clause-value
returns-else-stands_in-clause-value c =
    let bs = c.args.bytes.now in
    let bytes = bytes_each bs (λ i. (c.type_inv.bytes i).fits) in
    let (good, _, kind, _, above) = c.requires in
    let n = c.index_in.ensures.0 in
    let made = c.first_half-height.ensures in
    c.if-stands_in.false
    ∙ half_unlike bs bytes good kind above _ (half-height bs bytes good kind above _ n _ made.value) _
    (half-front bs bytes good kind above _ n _ (ap half_of c.count_in-count.ensures) _ _ made.b_after)
    (sym c.stands_in.ensures ∙ c.if-stands_in.false)
