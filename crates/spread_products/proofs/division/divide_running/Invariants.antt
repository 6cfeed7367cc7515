-- `division::divide_running` meets its contract. The invariant: the division has got to this place, and what is carried
-- is the quotient's entry before it.
use mathlib.Core.Path.{◌≡◌}
use Rattle.definitions.specs.Steps.{entries}
use Rattle.spread_products.proofs.Dividing.{Lower, carried_at}
use Rattle.spread_products.proofs.division.divide_running.Given as goal

abbrev pub invariant-loop-x : goal.invariant-loop-x
invariant-loop-x l = Lower 1 l.initial.a l.a l.x-index × (l.carried ≡ carried_at (entries l.initial.a) l.x-index)
