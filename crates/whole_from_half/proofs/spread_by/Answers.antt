-- `spread_by` meets its contract: z^1 for z changes nothing.
use mathlib.Core.Path.{sym, ◌∙◌, ap}
use lib.ListN.{length}
use Rattle.definitions.specs.Series.{firsts, spread}
use Rattle.definitions.specs.Steps.{entries}
use Rattle.series.specs.Maps.{spread-one}
use Rattle.step_laws.specs.Firsts.{firsts-entries}
use Rattle.whole_from_half.proofs.spread_by.Goals as goal

pub returns-then-t-eq1 : goal.returns-then-t-eq1
returns-then-t-eq1 c =
    let l = c.args.b.now in
    sym (ap (λ t. firsts (length l) (spread t (entries l))) c.if-t-eq1.true
    ∙ ap (firsts (length l)) (spread-one (entries l)) ∙ firsts-entries l)
