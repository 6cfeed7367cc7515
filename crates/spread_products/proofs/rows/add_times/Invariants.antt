-- `rows::add_times` meets its contract. The invariant: so many rows were added.
use lib.IntN.{pos}
use lib.Signed.{lt_z}
use Rattle.spread_products.proofs.Adding.{RowsAdded}
use Rattle.spread_products.proofs.rows.add_times.Given as goal

abbrev pub invariant-loop : goal.invariant-loop
invariant-loop l = RowsAdded (lt_z l.c (pos 0)) l.at l.g l.initial.a l.a l.counter
