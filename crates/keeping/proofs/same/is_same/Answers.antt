-- `is_same`: by halves where that is known to do, else as a whole.
use mathlib.Core.Path.{◌≡◌, sym, ◌∙◌, ap}
use Rattle.widths.proofs.Digits.{bytes_each}
use Rattle.record.specs.Header.{index_in}
use Rattle.index.specs.Parts.{parts_of, taken_apart}
use Rattle.index.proofs.Laws.{taken_good, parts_r}
use Rattle.keeping.proofs.Comparing.{header, good_in}
use Rattle.keeping.proofs.same.is_same.Goals as goal

pub kind_in-requires : goal.kind_in-requires
kind_in-requires c = (header _ c.requires.0).long

pub index_in-requires : goal.index_in-requires
index_in-requires c = (header _ c.requires.0).long

pub has_half-requires : goal.has_half-requires
has_half-requires c =
    let start = c in
    let bs = start.args.bytes.now in
    let b = bytes_each bs (λ i. (c.type_inv.bytes
    i).fits) in
    let good = good_in bs b start.requires.0 in
    let apart : c.take_apart-parts.result ≡ parts_of (index_in bs) =
    c.take_apart-parts.ensures ∙ ap taken_apart
    c.index_in.ensures.0 ∙ taken_good (index_in bs) good in (
      start.requires.0,
      start.requires.1,
      sym c.kind_in.ensures
          ∙ c.if-kind_in-ne1.false,
      apart,
      λ e. c.if-parts-eq1.false (parts_r (index_in bs) _ apart ∙ e),
    )
