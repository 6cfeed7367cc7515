-- `make` meets its contract, by r (Stepping).
use Rattle.std.proofs.Common.{sym, ◌∙◌}
use Rattle.whole_from_half.proofs.Laying.{above_zero, r_is}
use Rattle.polynomial.proofs.Stepping.{made_one}
use Rattle.polynomial.proofs.making.make.Goals as goal

pub without_steps-requires : goal.without_steps-requires
without_steps-requires c = (c.requires.0, sym (r_is _ _ _ _ c.requires.0) ∙ c.if-parts-eq1.true)

pub returns-then-parts-eq1 : goal.returns-then-parts-eq1
returns-then-parts-eq1 c =
    made_one c.args.kind c.args.n c.args.h c.args.w _ (above_zero _ _ _ _ c.requires.0)
    (sym (r_is _ _ _ _ c.requires.0) ∙ c.if-parts-eq1.true) c.requires.1 c.without_steps.ensures

pub make_by_steps-requires : goal.make_by_steps-requires
make_by_steps-requires c =
    (c.requires.0, λ e. c.if-parts-eq1.false (r_is _ _ _ _ c.requires.0 ∙ e), c.requires.2)
