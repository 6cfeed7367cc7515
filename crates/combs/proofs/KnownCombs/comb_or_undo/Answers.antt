-- The comb of which it is known that no value passes w: it stays in the range too.
use mathlib.Core.Path.{◌∙◌}
use Rattle.definitions.specs.Steps.{comb}
use Rattle.step_laws.specs.WorkingLimit.{over_more}
use Rattle.wrapped_combs.specs.Laws.{wrapped_known}
use Rattle.combs.proofs.KnownCombs.comb_or_undo.Goals as goal

pub returns : goal.returns
returns c =
    let p = c.args in
    let none = c.requires.3 in
    record {
      over = none;
      leaves = c.comb.ensures ∙ wrapped_known comb p.d p.a.now (over_more c.requires.2.1 comb p.d p.a.now none);
    }
