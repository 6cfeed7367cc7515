-- `joining::product` meets its contract: what holds the product holds the quotient after the division.
use Rattle.spread_products.proofs.Dividing.{made-quotient}
use Rattle.second_engine.proofs.joining.product.Goals as goal

pub returns-in-First : goal.returns-in-First
returns-in-First c = rw c.in-First.is (made-quotient c.args.m c.requires.0 c.times_spread.ensures c.divide.ensures)
