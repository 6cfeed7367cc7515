-- `text::put_digits` meets its contract: a digit below ten, and else the tenth's digits and the last.
use Rattle.std.proofs.Common.{ap, arith, length}
use Rattle.text.proofs.Decimal.{decimal_small, decimal_more, length_more}
use Rattle.text.proofs.Putting.{then}
use Rattle.text.proofs.+put_digits.Goals as goal

pub put-requires : goal.put-requires
put-requires t c = omega (arith, ap length (decimal_small c.args.n c.if-n-lt10.true))

pub returns-then-n-lt10 : goal.returns-then-n-lt10
returns-then-n-lt10 t c = rw (decimal_small _ c.if-n-lt10.true) c.put.ensures

pub put_digits-p-requires : goal.put_digits-p-requires
put_digits-p-requires t c =
    (omega (arith, c.requires), omega (arith, c.requires, length_more c.args.n c.if-n-lt10.false))

pub put-requires-2 : goal.put-requires-2
put-requires-2 t c =
    omega (arith, c.requires, c.put_digits-p.ensures.place, length_more c.args.n c.if-n-lt10.false)

pub returns : goal.returns
returns t c = rw (decimal_more _ c.if-n-lt10.false) (then c.put_digits-p.ensures c.put-2.ensures)
