-- `Wide`'s test meets its contract: a value that can't be taken is out of every range.
use mathlib.Core.Path.{sym, ◌∙◌, ap}
use Rattle.definitions.specs.Steps.{in_range}
use Rattle.step_laws.specs.Machine.{seen_both}
use Rattle.step_laws.specs.Tests.{not_true_is}
use Rattle.entry_steps.specs.Sorts.{sort_means}
use Rattle.entry_steps.specs.Passes.{new_value}
use Rattle.entry_steps.proofs.Values.{value_fits}
use Rattle.entry_steps.proofs.ways.WideTest.passes.Goals as goal

pub returns-in-None : goal.returns-in-None
returns-in-None c =
    let p = c.args in
    sym (not_true_is _ (λ t. c.in-None.ensures (value_fits c.requires.0 _ (sym t))))
    ∙ ap (in_range p.w) (seen_both c.ranges.x c.ranges.y (new_value (sort_means p.sort)))
