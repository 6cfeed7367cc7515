-- `try_one`: each test in turn (Trying).
use Rattle.std.proofs.Common.{sym, ◌∙◌, arith}
use Rattle.keeping.proofs.Comparing.{header}
use Rattle.keeping.proofs.Trying.{tried_unread, tried_cramped, tried_whole}
use Rattle.keeping.proofs.try_one.Goals as goal

pub returns-then-look-ne-DONE-clause-value : goal.returns-then-look-ne-DONE-clause-value
returns-then-look-ne-DONE-clause-value c =
    tried_unread _ _ (λ e. c.if-look-ne-DONE.true (c.look.ensures ∙ e))

pub count_in-requires : goal.count_in-requires
count_in-requires c = (header _ (sym c.look.ensures ∙ c.if-look-ne-DONE.false)).long

pub returns-then-coeffs-count_in-clause-value : goal.returns-then-coeffs-count_in-clause-value
returns-then-coeffs-count_in-clause-value c =
    tried_cramped _ _ (sym c.look.ensures ∙ c.if-look-ne-DONE.false)
    (omega (arith, c.if-coeffs-count_in.true, c.count_in.ensures))

pub returns-clause-value : goal.returns-clause-value
returns-clause-value c =
    tried_whole _ _ (sym c.look.ensures ∙ c.if-look-ne-DONE.false) _
    (omega (arith, c.if-coeffs-count_in.false, c.count_in.ensures)) c.is_same.ensures.value
