-- `get`: each arm by its own width, the last by the only one left (Least).
use mathlib.Core.Path.{◌≡◌}
use native.Mathlib.Omega.{arith}
use Rattle.widths.proofs.Least.{width_last}
use Rattle.record.proofs.bytes.get.Goals as goal
use Rattle.record.proofs.bytes.get.Goals.{In_default}

last : (c : In_default) → c.args.w ≡ 8
last c =
    let r = c.in_default.in_default-own.rest in
    width_last c.args.w c.requires.0 r.0.0.1 r.0.1 r.1

pub eight-requires : goal.eight-requires
eight-requires c = omega (arith, last (goal.at.eight-requires c).In_default)

pub returns-in-1 : goal.returns-in-1
returns-in-1 c = rw c.in-1.is c.one.ensures

pub returns-in-2 : goal.returns-in-2
returns-in-2 c = rw c.in-2.is c.two.ensures

pub returns-in-4 : goal.returns-in-4
returns-in-4 c = rw c.in-4.is c.four.ensures

pub returns-in_default : goal.returns-in_default
returns-in_default c = rw (last (goal.at.returns-in_default c).In_default) c.eight.ensures
