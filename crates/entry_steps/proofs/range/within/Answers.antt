-- `entry_steps::range::within` meets its contract: the lower test, and where it holds the upper one.
use mathlib.Core.Path.{◌≡◌, sym, ◌∙◌, ap₂}
use lib.IntN.{pos, neg_ℤ, ◌-ℤ◌}
use lib.Signed.{le_z}
use mir.Syntax.{w64}
use mir.Val.{to_z}
use mir.Facts.{to_z-of_z}
use Rattle.step_laws.specs.Signed.{above_test, below_test}
use Rattle.step_laws.specs.Machine.{seen, limit_fits, negative, negative_fits}
use Rattle.entry_steps.proofs.range.within.Goals as goal
use Rattle.entry_steps.proofs.range.within.Goals.{Start}

-- the two tests, as the machine sees them
module _ (p : Start) where
  upper : le_z (seen p.args.v) (to_z w64 p.args.w) ≡ le_z p.args.v (pos p.args.w)
  upper = ap₂ le_z (to_z-of_z p.ranges.v) (to_z-of_z (limit_fits p.args.w p.requires.1))

  lower : le_z (seen (pos 0 -ℤ to_z w64 p.args.w)) (seen p.args.v) ≡ le_z (neg_ℤ (pos p.args.w)) p.args.v
  lower =
      ap₂ le_z (to_z-of_z (negative_fits p.args.w p.requires.1) ∙ negative p.args.w p.requires.1)
      (to_z-of_z p.ranges.v)

pub returns-then-least-v : goal.returns-then-least-v
returns-then-least-v c =
    let p = c.before in
    upper p ∙ above_test p.args.w p.args.v p.requires.0 (sym (lower p) ∙ c.if-least-v.true)

pub returns-else-least-v : goal.returns-else-least-v
returns-else-least-v c =
    let p = c.before in
    lower p ∙ below_test p.args.w p.args.v p.requires.0 (sym (lower p) ∙ c.if-least-v.false)
