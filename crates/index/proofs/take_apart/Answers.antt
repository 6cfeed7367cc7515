-- `take_apart` meets its contract: an index is taken apart, and of any other number the parts are those of 0 (Laws).
use mathlib.Core.Path.{sym, ◌∙◌}
use Rattle.index.proofs.Laws.{index_good, taken_none, taken_good}
use Rattle.index.proofs.take_apart.Goals as goal

pub returns-then-not-good_index : goal.returns-then-not-good_index
returns-then-not-good_index c =
    c.parts_of_none.ensures
    ∙ sym (taken_none _ (sym c.good_index.ensures ∙ c.if-not-good_index.true))

pub parts_of-requires : goal.parts_of-requires
parts_of-requires c = index_good _ (sym c.good_index.ensures ∙ c.if-not-good_index.false)

pub returns : goal.returns
returns c =
    c.parts_of.ensures
    ∙ sym (taken_good _ (sym c.good_index.ensures ∙ c.if-not-good_index.false))
