-- `text::put_number` meets its contract: a number of 64 bits has at most 20 digits.
use native.Mathlib.Omega.{arith}
use Rattle.text.proofs.Decimal.{decimal_small, length_machine}
use Rattle.text.proofs.put_number.Goals as goal

pub returns-then-n-lt10-clause-puts : goal.returns-then-n-lt10-clause-puts
returns-then-n-lt10-clause-puts c = rw (decimal_small _ c.if-n-lt10.true) c.put.ensures

pub put_digits-requires : goal.put_digits-requires
put_digits-requires c =
    omega (arith, length_machine c.args.n c.ranges.n.fits)

pub returns-clause-upper_bound : goal.returns-clause-upper_bound
returns-clause-upper_bound c =
    omega (arith, c.put_digits.ensures.place, length_machine c.args.n c.ranges.n.fits)
