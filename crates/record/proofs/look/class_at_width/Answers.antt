-- `class_at_width`: the last arm by the only width left (Least).
use Rattle.std.proofs.Common.{◌≡◌, arith}
use Rattle.widths.proofs.Least.{width_last}
use Rattle.record.proofs.look.class_at_width.Goals as goal
use Rattle.record.proofs.look.class_at_width.Goals.{In_default}

last : (c : In_default) → c.args.w ≡ 8
last c =
    let r = c.in_default.in_default-own.rest in
    width_last c.args.w c.requires.0 r.0.0.1 r.0.1 r.1

pub new-requires-in_default : goal.new-requires-in_default
new-requires-in_default c =
    let p = rw (last (goal.at.new-requires-in_default c).In_default) at c.requires in
    (omega arith, (p.0, p.1))

pub returns-in_default : goal.returns-in_default
returns-in_default c = rw (last (goal.at.returns-in_default c).In_default, ← c.new-in_default.ensures) c.class-in_default.ensures
