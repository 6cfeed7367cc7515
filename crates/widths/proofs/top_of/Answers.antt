-- `top_of`: the shift is 2^(8w - 1) (Widths).
use native.Mathlib.Omega.{arith}
use Rattle.widths.proofs.Widths.{shifted}
use Rattle.widths.proofs.top_of.Goals as goal

pub overflow_sub-result-2 : goal.overflow_sub-result-2
overflow_sub-result-2 c = omega (arith, shifted c.args.w c.requires.0 c.requires.1)

pub returns : goal.returns
returns c = omega (arith, shifted c.args.w c.requires.0 c.requires.1)
