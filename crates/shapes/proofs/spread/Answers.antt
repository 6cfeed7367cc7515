-- `spread` meets its contract: what lies above the top entry is cleared, and then each entry moves where it goes.
use Prim.Native.Nat.{◌+◌, ◌-◌, ◌≤◌}
use mathlib.Core.Path.{◌≡◌, ◌∙◌, ap, refl}
use native.Mathlib.Nat as NatL
use native.Mathlib.Omega.{arith}
use borrow.Rule.Slice.PartMut.{mid_len}
use lib.ListN.{length}
use mir.Syntax.{w64}
use mir.Facts.{to_z-of_z}
use Rattle.definitions.specs.Steps.{entries}
use Rattle.definitions.specs.Requests.{zeros}
use Rattle.shapes.proofs.Spreading.{above_fits, spreading_start, spreading_turn, spreading_end}
use Rattle.shapes.proofs.spread.Goals as goal

pub loop-i-init : goal.loop-i-init
unfolding zeros
loop-i-init c =
    let l = c.args.a.now in
    let fits = above_fits c.args.t c.args.top c.requires.0 c.requires.1 in
    let top : c.args.top + 1 - 1 ≡ c.args.top = omega arith in
    rw top
    (spreading_start c.args.t c.args.top l c.fill.new.self c.requires.0 c.requires.1
    (c.fill.ensures.after (λ y e. e) ∙ ap zeros (mid_len (c.args.top + 1) (length l) l (omega arith))))

pub loop-i-preserved : goal.loop-i-preserved
unfolding entries
loop-i-preserved c =
    let low : c.loop-i.i - 1 ≤ c.args.top = omega arith in
    let inside = NatL.mul-le-mul_right c.args.t low in
    spreading_turn c.loop-i.invariant (omega arith) c.requires.0 (omega arith) (to_z-of_z {w = w64} (record { sfits = omega arith })) refl

pub returns : goal.returns
returns c = spreading_end c.loop-i.invariant c.requires.0 (omega arith)
