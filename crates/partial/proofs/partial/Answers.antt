-- `partial` meets its contract: each test's code (Stopping), and then `stop_at`'s. What each test showed is named once.
use mathlib.Core.Path.{◌≡◌, sym, ◌∙◌}
use mathlib.Core.Bool.{true}
use Rattle.definitions.specs.Requests.{known_kind, good_index}
use Rattle.index.specs.Parts.{parts_of}
use Rattle.index.proofs.Laws.{taken_good, parts_r}
use Rattle.partial.proofs.Stopping.{stop-kind, stop-index, stop-one, at_kind, at_index}
use Rattle.partial.proofs.partial.Goals as goal
use Rattle.partial.proofs.partial.Goals.{After-take_apart-parts, Else-not-known_kind, Start}

-- the kind is known; the index is good and taken apart
known : (c : Else-not-known_kind) → known_kind c.args.kind ≡ true
known c = sym c.known_kind.ensures ∙ c.if-not-known_kind.false

module _ (c : After-take_apart-parts) where
  abbrev start : Start
  start = c.before.before.before.before.before

  kind_known : known_kind start.args.kind ≡ true
  kind_known = known c.before.before.before

  good : good_index start.args.n ≡ true
  good = sym c.good_index.ensures ∙ c.if-not-good_index.false

  apart : c.take_apart-parts.result ≡ parts_of start.args.n
  apart = c.take_apart-parts.ensures ∙ taken_good start.args.n good

pub returns-then-not-known_kind : goal.returns-then-not-known_kind
returns-then-not-known_kind c = let p = c in
    let k = sym c.known_kind.ensures ∙ c.if-not-known_kind.true in
    let s = at_kind p.args.kind p.args.n p.args.j p.args.w p.args.buf.now
    (stop-kind _ _ _ _ _ k) in record {
      value = c.of.ensures ∙ s.0;
      buf_after = s.1;
    }

pub returns-then-not-good_index : goal.returns-then-not-good_index
returns-then-not-good_index c = let p = c in
    let g = sym c.good_index.ensures ∙ c.if-not-good_index.true in
    let s = at_index p.args.kind p.args.n p.args.j p.args.w p.args.buf.now
    (stop-index _ _ _ _ _ (known (goal.at.returns-then-not-good_index c).Else-not-known_kind) g) in record {
      value = c.of-then-not-good_index.ensures ∙ s.0;
      buf_after = s.1;
    }

pub returns-then-parts-eq1 : goal.returns-then-parts-eq1
returns-then-parts-eq1 c = let t = (goal.at.returns-then-parts-eq1 c).After-take_apart-parts in
    let p = start t in
    let s = at_index p.args.kind p.args.n p.args.j p.args.w p.args.buf.now
    (stop-one _ _ _ _ _ (kind_known t) (good t) (sym (parts_r _ _ (apart t)) ∙ c.if-parts-eq1.true)) in record {
      value = c.of-then-parts-eq1.ensures ∙ s.0;
      buf_after = s.1;
    }

pub stop_at-requires : goal.stop_at-requires
stop_at-requires c =
    let t = (goal.at.stop_at-requires c).After-take_apart-parts in
    record {
      parts = apart t;
      known = kind_known t;
      good = good t;
      above = λ e. c.if-parts-eq1.false (parts_r _ _ (apart t) ∙ e);
    }
