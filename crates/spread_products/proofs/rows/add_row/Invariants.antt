-- `rows::add_row` meets its contract. The invariant: the row has got to the place j of g.
use Rattle.spread_products.proofs.Adding.{RowTo}
use Rattle.spread_products.proofs.rows.add_row.Given as goal

abbrev pub invariant-loop-j : goal.invariant-loop-j
invariant-loop-j l = RowTo l.away l.at l.g l.initial.a l.a l.j
