-- `search`: what is left of the search from `at` on is what is left of it from the start (Searching).
use Rattle.std.proofs.Common.{◌∙◌, arith}
use Rattle.std.proofs.lemmas.Result.{err_from_is_err_and}
use Rattle.keeping.proofs.Searching.{at_end, at_kept, at_cramped, goes_on, passes_to}
use Rattle.keeping.proofs.search.Goals as goal

pub returns-in_err-try_at-clause-value : goal.returns-in_err-try_at-clause-value
returns-in_err-try_at-clause-value c =
    let p = err_from_is_err_and c.from_residual.result c.from_residual.ensures.1 in
    let tried = rw c.loop-at.invariant.1 at c.in_err-try_at.ensures.value in
    rw p.1 (at_cramped _ _ _ _ c.loop-at.invariant.0 (omega arith) _ tried)

pub returns-then-branch-clause-value : goal.returns-then-branch-clause-value
returns-then-branch-clause-value c =
    let tried = rw (c.loop-at.invariant.1, c.if-branch.true) at c.in_ok-try_at.ensures.value in
    at_kept _ _ _ _ c.loop-at.invariant.0 (omega arith) tried

pub loop-at-preserved : goal.loop-at-preserved
loop-at-preserved c =
    let tried = rw (c.loop-at.invariant.1, c.if-branch.false) at c.in_ok-try_at.ensures.value in
    let (on, inside, none) = c.next_mark-at.ensures in (
      passes_to _ _ _ _ _ (goes_on _ _ _ _ c.loop-at.invariant.0 (omega arith) tried) on inside none,
      c.try_at.ensures.coeffs_len_unchanged ∙ c.loop-at.invariant.1,
    )

pub returns-then-shelf-at-clause-value : goal.returns-then-shelf-at-clause-value
returns-then-shelf-at-clause-value c = at_end _ _ _ _ c.loop-at.invariant.0 c.if-shelf-at.true
