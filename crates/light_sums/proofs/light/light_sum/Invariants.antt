-- `light::light_sum`: term by term, both sums at once.
use Rattle.light_sums.specs.Light.{SumsTo}
use Rattle.light_sums.proofs.light.light_sum.Given as goal

abbrev pub invariant-loop-j : goal.invariant-loop-j
invariant-loop-j l = SumsTo l.f l.b l.i l.j l.sums
