-- `class`: the class of the largest so far, and what is left (Passes).
use Rattle.std.proofs.Common.{◌∙◌, ap, nat_abs, arith}
use Rattle.widths.specs.Classes.{class}
use Rattle.record.proofs.Passes.{look_none, look_turn, look_all}
use Rattle.record.proofs.body.Body.class.Goals as goal

pub loop-i-init : goal.loop-i-init
loop-i-init g c = look_none g.row.W c.args.self.now

pub loop-i-preserved : goal.loop-i-preserved
loop-i-preserved g c =
    look_turn g.row.W _ _ _ c.args.self.now c.number.ensures.0 (omega arith)
    (c.class_of-all.ensures ∙ ap (λ x. class g.row.W (nat_abs x)) c.number.ensures.1) c.loop-i.invariant

pub returns : goal.returns
returns g c = look_all _ _ _ c.args.self.now (omega arith) c.loop-i.invariant
