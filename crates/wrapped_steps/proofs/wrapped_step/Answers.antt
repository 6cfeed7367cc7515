-- `wrapped_steps::wrapped_step` meets its contract: a size that is at least the length leaves all entries.
use mathlib.Core.Path.{sym}
use Rattle.entry_steps.specs.Sorts.{sort_means}
use Rattle.wrapped_combs.specs.Laws.{wrapped_long}
use Rattle.wrapped_steps.proofs.wrapped_step.Goals as goal

pub returns-then-a-d : goal.returns-then-a-d
returns-then-a-d c = let q = c.args in sym (wrapped_long (sort_means q.sort) q.d q.a.now c.if-a-d.true)
