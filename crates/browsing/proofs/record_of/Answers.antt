-- `record_of_lem`: what stands in the header of bytes that read well.
use Prim.Native.Nat.{◌≤◌}
use mathlib.Core.Path.{sym}
use native.Mathlib.Omega.{arith}
use lib.ListN.{length}
use Rattle.record.proofs.Headers.{Right, right}
use Rattle.shelf.specs.Format.{whole_mark}
use Rattle.shelf.proofs.Alone.{header_looked, size_looked}
use Rattle.browsing.proofs.Showing.{shown_record}
use Rattle.browsing.proofs.record_of.Goals as goal
use Rattle.browsing.proofs.record_of.Goals.{Start}

-- what reads well has a right header
header : (start : Start) → Right whole_mark start.args.bytes.now
header start = right _ _ (header_looked _ start.requires.0)

long : (start : Start) → 10 ≤ length start.args.bytes.now
long start = (header start).long

pub size_in-requires : goal.size_in-requires
size_in-requires c = header_looked _ c.requires.0

pub overflow_add-result : goal.overflow_add-result
overflow_add-result c =
    let start = c in
    omega (arith, c.size_in.ensures, size_looked start.args.bytes.now start.requires.0)

pub kind_in-requires : goal.kind_in-requires
kind_in-requires c = long (goal.at.kind_in-requires c).Start

pub index_in-requires : goal.index_in-requires
index_in-requires c = long (goal.at.index_in-requires c).Start

pub count_in-requires : goal.count_in-requires
count_in-requires c = long (goal.at.count_in-requires c).Start

pub overflow_sub-result : goal.overflow_sub-result
overflow_sub-result c =
    let start = (goal.at.overflow_sub-result c).Start in
    omega (arith, c.count_in.ensures, (header start).count)

pub returns : goal.returns
returns c =
    let start = (goal.at.returns c).Start in
    sym (shown_record _ _ start.requires.0 _ _ _ _ c.size_in.ensures
    c.kind_in.ensures c.index_in.ensures.0
    (omega (arith, c.count_in.ensures, (header start).count)))
