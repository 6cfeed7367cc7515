-- `factor_steps::turned` meets its contract: each arm is the other sort.
use mathlib.Core.Path.{refl}
use Rattle.cyclotomic.specs.Terms.{other}
use Rattle.factor_steps.proofs.turned.Goals as goal

pub returns-in-Comb : goal.returns-in-Comb
unfolding other
returns-in-Comb c = rw c.in-Comb.is refl

pub returns-in-Accumulate : goal.returns-in-Accumulate
unfolding other
returns-in-Accumulate c = rw c.in-Accumulate.is refl
