-- `bv_partial` meets its contract, the request's. The limit is passed as its bits,
-- which stand for it since it fits.
use mathlib.Core.Path.{◌∙◌, ap}
use lib.IntN.{ℤ}
use lib.ListN.{length}
use mir.Facts.{to_z-of_z}
use Rattle.answers.specs.Partial.{answer, leaves}
use Rattle.bonvedrick.proofs.bv_partial.Goals as goal

pub returns : goal.returns
returns c =
    let a = c.args in
    let told = c.partial.ensures in
    let w = to_z-of_z c.ranges.w in record {
      answer = told.value ∙ ap (λ (x : ℤ). answer a.kind a.n a.j x (length a.buf.now)) w;
      leaves = told.buf_after ∙ ap (λ (x : ℤ). leaves a.kind a.n a.j x a.buf.now) w;
    }
