-- `fill`: each arm by its own width, the last by the only one left (Least).
use Rattle.std.proofs.Common.{◌≡◌, ◌∙◌, arith, length, drop, ap}
use Rattle.widths.proofs.Least.{width_last}
use Rattle.record.proofs.Passes.{length_at}
use Rattle.record.proofs.body.fill.Goals as goal
use Rattle.record.proofs.body.fill.Goals.{In_default}

last : (c : In_default) → c.args.w ≡ 8
last c =
    let r = c.in_default.in_default-own.rest in
    width_last c.args.w c.requires.0 r.0.0.1 r.0.1 r.1

pub new-requires-in_default : goal.new-requires-in_default
new-requires-in_default c =
    let p = rw (last (goal.at.new-requires-in_default c).In_default) at c.requires in
    (omega arith, (p.0, p.1))

pub fill-requires : goal.fill-requires
fill-requires c =
    (omega arith, omega (arith, ap length c.new.ensures ∙ length_at 1 c.args.k (drop 10 c.args.bytes.now), c.requires.2))

pub fill-requires-in-2 : goal.fill-requires-in-2
fill-requires-in-2 c =
    (omega arith, omega (arith, ap length c.new-in-2.ensures ∙ length_at 2 c.args.k (drop 10 c.args.bytes.now), c.requires.2))

pub fill-requires-in-4 : goal.fill-requires-in-4
fill-requires-in-4 c =
    (omega arith, omega (arith, ap length c.new-in-4.ensures ∙ length_at 4 c.args.k (drop 10 c.args.bytes.now), c.requires.2))

pub fill-requires-in_default : goal.fill-requires-in_default
fill-requires-in_default c =
    (omega arith, omega (arith, ap length c.new-in_default.ensures ∙ length_at 8 c.args.k (drop 10 c.args.bytes.now), c.requires.2))

pub returns-in_default : goal.returns-in_default
returns-in_default c =
    rw (last (goal.at.returns-in_default c).In_default, ← c.new-in_default.ensures) c.fill-in_default.ensures
