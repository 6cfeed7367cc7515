-- `bv_polynomial` meets its contract, the request's. The limits are passed as their bits,
-- which stand for them since they fit.
use mathlib.Core.Path.{◌∙◌, ap₂}
use lib.IntN.{ℤ}
use lib.ListN.{length}
use mir.Facts.{to_z-of_z}
use Rattle.answers.specs.Polynomial.{answer, leaves}
use Rattle.bonvedrick.proofs.bv_polynomial.Goals as goal

pub returns : goal.returns
returns c =
    let a = c.args in
    let told = c.polynomial.ensures in
    let h = to_z-of_z c.ranges.h in
    let w = to_z-of_z c.ranges.w in record {
      answer = told.value ∙ ap₂ (λ (x y : ℤ). answer a.kind a.n x y (length a.buf.now)) h w;
      leaves = told.buf_after ∙ ap₂ (λ (x y : ℤ). leaves a.kind a.n x y a.buf.now) h w;
    }
