-- `right_width`: what the class of the height says (widths' Classes).
use Rattle.widths.proofs.Classes.{tested-one, tested_more}
use Rattle.record.proofs.look.right_width.Goals as goal

pub returns-then-w-eq1 : goal.returns-then-w-eq1
returns-then-w-eq1 c = tested-one _ _ _ c.requires.0 c.class_at_width-all.ensures c.if-w-eq1.true

pub returns : goal.returns
returns c = tested_more _ _ _ c.requires.0 c.class_at_width-all.ensures c.if-w-eq1.false
