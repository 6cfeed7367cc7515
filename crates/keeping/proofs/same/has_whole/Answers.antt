-- `has_whole`: what is made is the polynomial of the record's kind and index (Comparing).
use Rattle.std.proofs.Common.{◌∙◌}
use Rattle.widths.proofs.Digits.{bytes_each}
use Rattle.keeping.proofs.Comparing.{header, made-height, made_is, comparable, whole_stands}
use Rattle.keeping.proofs.same.has_whole.Goals as goal

pub kind_in-requires : goal.kind_in-requires
kind_in-requires c = (header _ c.requires.0).long

pub index_in-requires : goal.index_in-requires
index_in-requires c = (header _ c.requires.0).long

pub count_in-count-requires : goal.count_in-count-requires
count_in-count-requires c = (header _ c.requires.0).long

pub stands_in-requires-clause-fits : goal.stands_in-requires-clause-fits
stands_in-requires-clause-fits c =
    let bs = c.args.bytes.now in
    let bytes = bytes_each bs (λ i. (c.type_inv.bytes i).fits) in
    let l = c.args.coeffs.now in
    let p = c.polynomial-made.ensures in
    comparable bs bytes c.requires.0 _
    (made-height bs bytes c.requires.0 l c.requires.1 _ _ c.kind_in.ensures c.index_in.ensures.0 p.value) _
    (made_is bs bytes c.requires.0 l c.requires.1 _ _ c.kind_in.ensures c.index_in.ensures.0 p.buf_after _
    c.count_in-count.ensures)

pub returns-clause-value : goal.returns-clause-value
returns-clause-value c =
    let bs = c.args.bytes.now in
    let bytes = bytes_each bs (λ i. (c.type_inv.bytes i).fits) in
    let l = c.args.coeffs.now in
    let p = c.polynomial-made.ensures in
    c.stands_in.ensures
    ∙ whole_stands bs bytes c.requires.0 _
    (made-height bs bytes c.requires.0 l c.requires.1 _ _ c.kind_in.ensures c.index_in.ensures.0 p.value) _
    (made_is bs bytes c.requires.0 l c.requires.1 _ _ c.kind_in.ensures c.index_in.ensures.0 p.buf_after _
    c.count_in-count.ensures)
