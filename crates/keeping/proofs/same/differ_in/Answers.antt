-- `differ_in`: the last width is 8.
use Rattle.std.proofs.Common.{arith}
use Rattle.widths.proofs.Least.{width_last}
use Rattle.keeping.proofs.same.differ_in.Goals as goal

pub differ_at-requires-in_default : goal.differ_at-requires-in_default
differ_at-requires-in_default c =
    let last = width_last c.args.w c.requires.0 (λ e. omega arith) (λ e. omega arith) (λ e. omega arith) in
    rw last at c.requires

pub returns-in_default : goal.returns-in_default
returns-in_default c =
    let last = width_last c.args.w c.requires.0 (λ e. omega arith) (λ e. omega arith) (λ e. omega arith) in
    rw last c.differ_at-in_default.ensures
