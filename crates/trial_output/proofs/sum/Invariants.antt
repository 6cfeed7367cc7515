-- `sum` is safe: it stays below its modulus, so the next one does not wrap.
use Rattle.std.proofs.Common.{◌<◌}
use Rattle.trial_output.proofs.sum.Given as goal

abbrev pub invariant-loop-c : goal.invariant-loop-c
invariant-loop-c g l = l.h < 144115188075851879
