-- `degree_of` meets its contract: where n is no index it is 0, and else by phi(n) (Laws).
use mathlib.Core.Path.{sym, ◌∙◌}
use Rattle.index.proofs.Laws.{index_good, parts_degree, no_degree, its_degree}
use Rattle.index.proofs.degree_of.Goals as goal

pub returns-then-not-good_index : goal.returns-then-not-good_index
returns-then-not-good_index c = let p = c in
    no_degree p.args.kind p.args.n (sym c.good_index.ensures ∙ c.if-not-good_index.true)

pub parts_of-a-requires : goal.parts_of-a-requires
parts_of-a-requires c = index_good _ (sym c.good_index.ensures ∙ c.if-not-good_index.false)

pub returns : goal.returns
returns c =
    let p = c in
    let t = c in
    its_degree p.args.kind p.args.n _
    (index_good _ (sym t.good_index.ensures ∙ t.if-not-good_index.false)).1
    (parts_degree p.args.n t.parts_of-a.result t.parts_of-a.ensures p.args.kind _
    c.degree_from.ensures)
