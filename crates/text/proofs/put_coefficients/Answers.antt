-- `text::put_coefficients` meets its contract: one coefficient more after those that are written.
use Rattle.std.proofs.Common.{◌<◌, length, get_or, take, pos, arith, add-one, rules}
use Rattle.std.proofs.Math.Seq.{take-suc}
use mir.Facts.{to_z-of_z}
use mir.Syntax.{w64}
use Rattle.text.proofs.Putting.{nothing_put, then, spaced-append}
use Rattle.text.specs.Text.{spaced}
use Rattle.text.proofs.put_coefficients.Goals as goal

pub loop-c-init : goal.loop-c-init
unfolding spaced
loop-c-init c = (nothing_put _ _, omega arith)

pub loop-c-preserved : goal.loop-c-preserved
loop-c-preserved c =
    let t = c.loop-c in
    let cs = take c.args.count c.args.entries.now in
    let h : t.c-index < length cs = omega arith in (
      rw (add-one, take-suc cs t.c-index (pos 0), spaced-append) (then t.invariant.0 (rw (to_z-of_z {w = w64} {z = get_or cs t.c-index (pos 0)} (record { sfits = search rules })) at c.put_signed-p.ensures.puts)),
      omega (arith, c.put_signed-p.ensures.upper_bound),
    )
