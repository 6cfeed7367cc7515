-- `division::divide` meets its contract. The invariant: the division has got to i.
use Rattle.spread_products.proofs.Dividing.{Lower}
use Rattle.spread_products.proofs.division.divide.Given as goal

abbrev pub invariant-loop-i : goal.invariant-loop-i
invariant-loop-i l = Lower l.m l.initial.a l.a l.i

abbrev pub invariant-loop-i-2 : goal.invariant-loop-i-2
invariant-loop-i-2 l = Lower l.m l.fn.a l.a l.i
