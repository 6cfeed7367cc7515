-- `rows::times_spread` meets its contract. The invariant: the product has got to the term i, whose place is i p.
use Rattle.spread_products.proofs.Spreading.{ProductTo}
use Rattle.spread_products.proofs.rows.times_spread.Given as goal

abbrev pub invariant-loop-i : goal.invariant-loop-i
invariant-loop-i l = ProductTo l.p l.f l.g l.a l.i
