-- `write`: a wrong kind or index is refused at once, and else `write_with`.
use mathlib.Core.Path.{◌≡◌, sym, ◌∙◌}
use mathlib.Core.Bool.{true}
use Rattle.definitions.specs.Requests.{known_kind}
use Rattle.record.specs.Header.{byte_of}
use Rattle.forms.specs.Format.{write_tells}
use Rattle.forms.proofs.Told.{told}
use Rattle.forms.proofs.Writing.{kind-wrong, index-wrong}
use Rattle.writing.proofs.write.Goals as goal
use Rattle.writing.proofs.write.Goals.{Else-not-known_kind}

-- the kind passed its test
known : (c : Else-not-known_kind) → known_kind c.args.kind ≡ true
known c = sym c.known_kind.ensures ∙ c.if-not-known_kind.false

pub returns-then-not-known_kind : goal.returns-then-not-known_kind
unfolding write_tells byte_of
returns-then-not-known_kind c = let told =
    let tested = c in
    told c.of.ensures
    (kind-wrong _ _ _ _ _ (sym tested.known_kind.ensures ∙ tested.if-not-known_kind.true)) in record { answer = told.0; leaves = told.1 }

pub returns-then-not-good_index : goal.returns-then-not-good_index
unfolding write_tells byte_of
returns-then-not-good_index c = let told =
    let tested = c in
    told c.of-then-not-good_index.ensures
    (index-wrong _ _ _ _ _ (known (goal.at.returns-then-not-good_index c).Else-not-known_kind)
    (sym tested.good_index.ensures ∙ tested.if-not-good_index.true)) in record { answer = told.0; leaves = told.1 }

pub write_with-requires : goal.write_with-requires
write_with-requires c =
    let tested = c in
    (known (goal.at.write_with-requires c).Else-not-known_kind, sym tested.good_index.ensures ∙ tested.if-not-good_index.false)

pub returns : goal.returns
returns c = record { answer = c.write_with.ensures.answer; leaves = c.write_with.ensures.leaves }
