-- `make_kept_half` meets its contract: the start, the run, and zeros where a value would pass the limit.
use mathlib.Core.Path.{◌∙◌, ap}
use native.Mathlib.Omega.{arith}
use lib.ListN.{length-set}
use lib.Seq.{get_or-set_same}
use Rattle.definitions.specs.Integers.{0ℤ}
use Rattle.definitions.specs.Steps.{entries}
use Rattle.step_laws.specs.Machine.{seen}
use Rattle.kept_half.proofs.Starting.{start_seen}
use Rattle.kept_half.proofs.Running.{fresh-stands}
use Rattle.kept_half.proofs.run.make_kept_half.Goals as goal

pub take_divisors-ran-requires-clause-kept_half_at : goal.take_divisors-ran-requires-clause-kept_half_at
unfolding entries
take_divisors-ran-requires-clause-kept_half_at c =
    fresh-stands c.args.w c.args.kind c.args.walk _ c.requires.workable c.requires.walk_at_start.0
    (length-set c.args.a.now 0 _ ∙ c.requires.walk_at_start.1)
    (get_or-set_same c.args.a.now 0 _ 0ℤ (omega arith)
    ∙ ap seen c.first_of.ensures ∙ start_seen c.args.kind)
