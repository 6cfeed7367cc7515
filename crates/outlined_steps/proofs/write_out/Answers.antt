-- `write_out` meets its contract: what is told repeated, or zeros after it (Outlining).
use mathlib.Core.Path.{◌∙◌}
use Rattle.outlined_steps.proofs.Outlining.{repeats_all, zeros-written}
use Rattle.outlined_steps.proofs.write_out.Goals as goal

pub returns-then-o : goal.returns-then-o
returns-then-o c =
    let p = c in
    c.repeat.ensures ∙ repeats_all p.args.o p.args.a.now c.if-o.true

pub returns : goal.returns
returns c =
    let p = c in
    zeros-written p.args.o p.args.a.now p.requires _ c.if-o.false
    c.write_zeros.ensures
