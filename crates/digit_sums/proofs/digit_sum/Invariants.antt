-- `digit_sum`: the sum of the products of two digits, term by term.
use Rattle.digit_sums.proofs.DigitSums.{DigitsTo}
use Rattle.digit_sums.proofs.digit_sum.Given as goal

abbrev pub invariant-loop-j : goal.invariant-loop-j
invariant-loop-j l = DigitsTo l.f l.b l.i l.j l.a l.c l.s
