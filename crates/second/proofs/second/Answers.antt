-- `second` meets its contract: each test's code (Answering), and then `answer_in`'s.
use Rattle.std.proofs.Common.{◌≡◌, true, false, sym, ◌∙◌}
use Rattle.definitions.specs.Steps.{below_one}
use Rattle.definitions.specs.Requests.{known_kind, good_index}
use Rattle.index.proofs.Laws.{taken_good}
use Rattle.step_laws.specs.Machine.{below_one_lem}
use Rattle.step_laws.specs.WorkingLimit.{read_limit}
use Rattle.second.proofs.Answering.{ask_kind, ask_index, ask_limit, at_kind, at_index, at_limit}
use Rattle.second.proofs.second.Goals as goal
use Rattle.second.proofs.second.Goals.{Else-h-lt1, Else-not-good_index, Else-not-known_kind}

known : (c : Else-not-known_kind) → known_kind c.args.kind ≡ true
known c = sym c.known_kind.ensures ∙ c.if-not-known_kind.false

good : (c : Else-not-good_index) → good_index c.args.n ≡ true
good c = sym c.good_index.ensures ∙ c.if-not-good_index.false

good_h : (c : Else-h-lt1) → below_one c.args.h ≡ false
good_h c = below_one_lem c.args.h c.ranges.h c.if-h-lt1.false

pub returns-then-not-known_kind : goal.returns-then-not-known_kind
returns-then-not-known_kind c =
    let s = at_kind c.args.kind c.args.n c.args.h c.args.buf.now c.args.scratch.now
    (ask_kind _ _ _ _ _ (sym c.known_kind.ensures ∙ c.if-not-known_kind.true)) in
    record { value = c.of.ensures ∙ s.0; buf_after = s.1.0; scratch_after = s.1.1 }

pub returns-then-not-good_index : goal.returns-then-not-good_index
returns-then-not-good_index c =
    let s = at_index c.args.kind c.args.n c.args.h c.args.buf.now c.args.scratch.now
    (ask_index _ _ _ _ _ (known (goal.at.returns-then-not-good_index c).Else-not-known_kind)
    (sym c.good_index.ensures ∙ c.if-not-good_index.true)) in
    record { value = c.of-then-not-good_index.ensures ∙ s.0; buf_after = s.1.0; scratch_after = s.1.1 }

pub returns-then-h-lt1 : goal.returns-then-h-lt1
returns-then-h-lt1 c =
    let at = goal.at.returns-then-h-lt1 c in
    let s = at_limit c.args.kind c.args.n c.args.h c.args.buf.now c.args.scratch.now
    (ask_limit _ _ _ _ _ (known at.Else-not-known_kind) (good at.Else-not-good_index)
    (below_one_lem c.args.h c.ranges.h c.if-h-lt1.true)) in
    record { value = c.of-then-h-lt1.ensures ∙ s.0; buf_after = s.1.0; scratch_after = s.1.1 }

pub answer_in-requires : goal.answer_in-requires
answer_in-requires c =
    let at = goal.at.answer_in-requires c in (
      c.take_apart-parts.ensures ∙ taken_good _ (good at.Else-not-good_index),
      known at.Else-not-known_kind,
      good at.Else-not-good_index,
      (read_limit c.args.h c.ranges.h (good_h at.Else-h-lt1) c.unsigned_abs.ensures.value).2.0,
    )

pub returns : goal.returns
returns c =
    rw (read_limit c.args.h c.ranges.h (good_h (goal.at.returns c).Else-h-lt1) c.unsigned_abs.ensures.value).1
    at c.answer_in.ensures
