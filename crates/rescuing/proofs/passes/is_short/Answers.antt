-- `is_short`: rooms in which SHORT can't be met, or each room beside what was counted (NeverShort, Codes).
use Rattle.std.proofs.Common.{true, false, refl, sym, ◌∙◌, ap}
use borrow.Author.Tests.{lt-ltb, le-ltb}
use lib.Dec.{ltb}
use Rattle.widths.proofs.Digits.{bytes_each}
use Rattle.rescuing.proofs.NeverShort.{roomy_done}
use Rattle.rescuing.proofs.Codes.{by_tests}
use Rattle.rescuing.proofs.passes.is_short.Goals as goal

pub returns-then-is_roomy-clause-value : goal.returns-then-is_roomy-clause-value
returns-then-is_roomy-clause-value c =
    let bytes = bytes_each c.args.shelf.now (λ i. (c.type_inv.shelf i).fits) in
    let roomy = c.is_roomy.ensures c.if-is_roomy.true in
    rw (roomy_done _ bytes _ _ _ roomy.0 roomy.2 roomy.1) refl

pub returns-then-room-all-clause-value : goal.returns-then-room-all-clause-value
returns-then-room-all-clause-value c =
    let all = c.in-Ok.ensures.count_is in
    let more = lt-ltb _ _ c.if-room-all.true in
    more ∙ by_tests _ _ _ _ false true _ (sym all.free) (sym more ∙ ap (ltb _) all.kept) refl

pub returns-else-room-all-clause-value : goal.returns-else-room-all-clause-value
returns-else-room-all-clause-value c =
    let all = c.in-Ok.ensures.count_is in
    by_tests _ _ _ _ false false _ (sym all.free) (sym (le-ltb _ _ c.if-room-all.false) ∙ ap (ltb _) all.kept)
    (ap (ltb _) all.slots)

pub returns-in-Err-clause-value : goal.returns-in-Err-clause-value
returns-in-Err-clause-value c = by_tests _ _ _ _ true _ _ (sym c.in-Err.ensures.count_is) refl refl
