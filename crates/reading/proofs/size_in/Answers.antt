-- `size_in_lem`: the width that was read, and what is stored (Reading); few, so that nothing wraps.
use Prim.Native.Nat.{◌*◌, ◌≤◌}
use native.Mathlib.Omega.{arith}
use Rattle.record.proofs.Headers.{right, in_bounds}
use Rattle.widths.proofs.Widths.{few}
use Rattle.forms.proofs.Reading.{size_in_lem}
use Rattle.reading.proofs.size_in.Goals as goal
use Rattle.reading.proofs.size_in.Goals.{After-stored_in}

pub width_in-w-requires : goal.width_in-w-requires
width_in-w-requires c = (right _ _ c.requires.1).long

small : (c : After-stored_in) → c.stored_in.result * c.width_in-w.result ≤ 524288
small c =
    let wide = c in
    few c.stored_in.result wide.width_in-w.result c.stored_in.ensures.1
    (in_bounds _ _ _ wide.width_in-w.ensures wide.requires.1).1

pub overflow_mul-result : goal.overflow_mul-result
overflow_mul-result c = omega (arith, small (goal.at.overflow_mul-result c).After-stored_in)

pub overflow_add-result : goal.overflow_add-result
overflow_add-result c = omega (arith, small (goal.at.overflow_add-result c).After-stored_in)

pub returns : goal.returns
returns c = size_in_lem _ _ _ _ c.width_in-w.ensures c.stored_in.ensures.0
