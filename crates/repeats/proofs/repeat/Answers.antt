-- `repeat` meets its contract: up to `far`, and from there on (Repeats: what is told comes again at `far` too).
use Rattle.repeats.specs.Repeats.{repeated}
use Rattle.repeats.proofs.Repeats.{told-again}
use Rattle.repeats.proofs.repeat.Goals as goal

pub returns : goal.returns
unfolding repeated
returns c =
    let far = c.far_back-far.ensures in
    told-again c.args.d _ c.args.a.now _ _ c.requires.0 far.0 far.1 c.copy_up.ensures far.2 c.copy_up-2.ensures
