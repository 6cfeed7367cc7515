-- `multiply`: from the top down, each coefficient stands where it belongs and is in range, or it stops.
use Rattle.exact_products.proofs.Making.{Made}
use Rattle.exact_products.proofs.multiply.Given as goal

abbrev pub invariant-loop-i : goal.invariant-loop-i
invariant-loop-i l = Made l.f l.initial.b l.b l.i
