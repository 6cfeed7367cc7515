-- `by_steps` meets its contract: what serving asks is tested, of a bound of the weight.
use mathlib.Core.Path.{sym, ◌∙◌}
use native.Mathlib.Omega.{arith}
use borrow.Author.Tests.{leb-true}
use Rattle.next_factor.proofs.Multiplying.{weighs_little}
use Rattle.next_factor.proofs.times.by_steps.Goals as goal

pub returns : goal.returns
returns c e =
    record {
      other = λ one. omega (arith, c.if-n-eq1.false);
      light = weighs_little _ _ c.args.weight c.requires (leb-true _ _ (sym c.product_fits.ensures ∙ e));
    }
