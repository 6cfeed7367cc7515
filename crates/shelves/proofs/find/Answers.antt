-- `find`: each refusal by the test that led there, and else `find_with`.
use Rattle.std.proofs.Common.{sym, ◌∙◌}
use Rattle.shelves.specs.Lookup.{found}
use Rattle.shelves.proofs.find.Goals as goal

pub returns-then-not-known_kind : goal.returns-then-not-known_kind
unfolding found
returns-then-not-known_kind c = c.without.ensures ∙ rw (sym c.known_kind.ensures ∙ c.if-not-known_kind.true)

pub returns-then-not-good_index : goal.returns-then-not-good_index
unfolding found
returns-then-not-good_index c =
    c.without-then-not-good_index.ensures ∙ rw (
      sym c.known_kind.ensures ∙ c.if-not-known_kind.false,
      sym c.good_index.ensures ∙ c.if-not-good_index.true,
    )

pub returns : goal.returns
unfolding found
returns c =
    c.find_with.ensures ∙ rw (
      sym c.known_kind.ensures ∙ c.if-not-known_kind.false,
      sym c.good_index.ensures ∙ c.if-not-good_index.false,
    )
