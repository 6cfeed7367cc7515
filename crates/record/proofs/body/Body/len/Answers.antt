-- `len`: as many as there are (Passes).
use Rattle.std.proofs.Common.{◌∙◌, sym, ap, length}
use Rattle.record.proofs.Passes.{length_at}
use Rattle.record.proofs.body.Body.len.Goals as goal

pub returns : goal.returns
returns g c = sym (length_at g.row.W c.self.inside.count _) ∙ ap length c.self.view_is
