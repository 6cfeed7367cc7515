-- `check_header`: each return by the tests that led there (Headers).
use mathlib.Core.Path.{sym, ◌∙◌}
use Rattle.record.proofs.Headers.{header_short, header_unmarked, header_fields}
use Rattle.record.proofs.header.check_header.Goals as goal

pub returns-then-bytes-lt10 : goal.returns-then-bytes-lt10
returns-then-bytes-lt10 c = sym (header_short _ _ c.if-bytes-lt10.true)

pub returns-then-not-is_marked : goal.returns-then-not-is_marked
returns-then-not-is_marked c =
    sym (header_unmarked _ _ c.if-bytes-lt10.false (sym c.is_marked.ensures
    ∙ c.if-not-is_marked.true))

pub returns : goal.returns
returns c =
    let e = c in
    c.check_fields.ensures ∙ sym (header_fields _ _ e.if-bytes-lt10.false (sym e.is_marked.ensures
    ∙ e.if-not-is_marked.false))
