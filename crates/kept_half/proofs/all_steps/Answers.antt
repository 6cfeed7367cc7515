-- `all_steps` meets its contract: the walk over n's r at its start, and the kept half after all its divisors
-- (Walked).
use mathlib.Core.Path.{sym, ◌∙◌}
use native.Mathlib.Nat.{le_of_eq}
use Rattle.std.proofs.lemmas.Result.{err_from_is_err_and}
use Rattle.numbers.specs.Apart.{r_odd_squarefree}
use Rattle.index.proofs.Laws.{parts_few}
use Rattle.std.specs.Prelude.{Ok, Err}
use Rattle.kept_half.proofs.Running.{two_primes}
use Rattle.kept_half.proofs.Walked.{walk_due, fresh_half, of_all}
use Rattle.kept_half.proofs.all_steps.Goals as goal

pub over-walk-requires : goal.over-walk-requires
over-walk-requires c = parts_few c.args.n c.args.parts c.requires.0.parts c.requires.0.good

pub make_kept_half-requires-clause-walk_at_start : goal.make_kept_half-requires-clause-walk_at_start
make_kept_half-requires-clause-walk_at_start c =
    fresh_half c.args.kind c.args.n c.args.parts c.requires.0 c.over-walk.result c.over-walk.ensures _ _ c.requires.1
    (le_of_eq (walk_due c.args.kind c.args.n c.args.parts c.requires.0 c.over-walk.result c.over-walk.ensures))

pub returns-in_err-ran : goal.returns-in_err-ran
returns-in_err-ran c =
    let told = err_from_is_err_and c.from_residual.result c.from_residual.ensures.1 in
    rw told.1
    (of_all c.args.kind c.args.n c.args.parts c.requires.0 c.over-walk.result c.over-walk.ensures _ _ (Err _)
    c.in_err-ran.ensures)

pub returns-then-all-eq3 : goal.returns-then-all-eq3
returns-then-all-eq3 c =
    two_primes
    (of_all c.args.kind c.args.n c.args.parts c.requires.0 c.over-walk.result c.over-walk.ensures _ _
    (Ok c.in_ok-ran.ran) c.in_ok-ran.ensures) (r_odd_squarefree _) c.if-kind-eq1.true
    (sym (walk_due c.args.kind c.args.n c.args.parts c.requires.0 c.over-walk.result c.over-walk.ensures)
    ∙ c.if-all-eq3.true)

pub returns : goal.returns
returns c =
    of_all c.args.kind c.args.n c.args.parts c.requires.0 c.over-walk.result c.over-walk.ensures _ _
    (Ok c.in_ok-ran.ran) c.in_ok-ran.ensures
