-- `make` meets its contract: where r is 1 nothing is asked, else the lower half is laid out.
use Rattle.std.proofs.Common.{◌≢◌, sym, ◌∙◌}
use Rattle.definitions.specs.Numbers.{r_of}
use Rattle.whole_from_half.proofs.Laying.{above_zero, r_is}
use Rattle.second.proofs.Asking.{asked, still_ready, lower, bounded, laid_one}
use Rattle.second.proofs.making.make.Goals as goal

pub without_steps-requires : goal.without_steps-requires
without_steps-requires c = (c.requires.0, sym (r_is _ _ _ _ c.requires.0) ∙ c.if-parts-eq1.true)

pub returns-then-parts-eq1 : goal.returns-then-parts-eq1
returns-then-parts-eq1 c =
    laid_one c.args.kind c.args.n c.args.h _ (above_zero _ _ _ _ c.requires.0)
    (sym (r_is _ _ _ _ c.requires.0) ∙ c.if-parts-eq1.true) c.requires.1 c.without_steps.ensures

pub lower_half-requires : goal.lower_half-requires
lower_half-requires c = (asked _ _ _ _ c.requires.0 _ c.requires.2, c.requires.0.known)

pub lay_out-requires : goal.lay_out-requires
lay_out-requires c =
    let l = c.lower_half in
    let above : r_of c.args.n ≢ 1 = λ q. c.if-parts-eq1.false (r_is _ _ _ _ c.requires.0 ∙ q) in (
      still_ready c.requires.0 l.auto.a,
      lower _ _ _ _ c.requires.0 above _ l.ensures,
      rw c.bound_of.ensures (bounded _ _ _ _ c.requires.0 above _ l.ensures),
    )
