-- `put_header`: the stores are those of `header_of`, one after the other.
use mathlib.Core.Path.{◌∙◌}
use native.Mathlib.Omega.{arith}
use lib.ListN.{length-set}
use Rattle.record.proofs.Headers.{four_long, header_stored}
use Rattle.record.proofs.header.put_header.Goals as goal

pub bounds-bytes-1 : goal.bounds-bytes-1
bounds-bytes-1 c = simp length-set (omega arith)

pub bounds-bytes-2 : goal.bounds-bytes-2
bounds-bytes-2 c = simp length-set (omega arith)

pub bounds-bytes-3 : goal.bounds-bytes-3
bounds-bytes-3 c = simp length-set (omega arith)

pub put-requires : goal.put-requires
put-requires c = simp length-set (omega arith)

pub put-requires-2 : goal.put-requires-2
put-requires-2 c =
    let a = c.args in
    omega (arith, c.put.auto.bytes, four_long a.bytes.now a.mark a.kind a.w)

pub shape_of-bytes : goal.shape_of-bytes
shape_of-bytes c =
    let a = c.args in
    c.put-2.auto.bytes ∙ c.put.auto.bytes
    ∙ four_long a.bytes.now a.mark a.kind a.w

pub returns : goal.returns
returns c =
    let a = c.args in
    header_stored a.bytes.now _ _ a.mark a.kind a.w a.n a.count
    c.put.ensures
    c.put-2.ensures
