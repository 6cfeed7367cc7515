-- `told`: all of it, worked out of the header, which is right (Reading).
use Rattle.std.proofs.Common.{arith}
use Rattle.record.proofs.Headers.{right}
use Rattle.forms.proofs.Reading.{all_told}
use Rattle.reading.proofs.told.Goals as goal

pub count_in-requires : goal.count_in-requires
count_in-requires c = (right _ _ c.requires).long

pub overflow_sub-result : goal.overflow_sub-result
overflow_sub-result c = omega (arith, c.count_in.ensures, (right _ _ c.requires).count)

pub kind_in-requires : goal.kind_in-requires
kind_in-requires c = (right _ _ c.requires).long

pub index_in-requires : goal.index_in-requires
index_in-requires c = (right _ _ c.requires).long

pub returns : goal.returns
returns c =
    all_told _ _ _ _ _ _ (omega (arith, c.count_in.ensures, (right _ _ c.requires).count))
    c.size_in.ensures c.kind_in.ensures c.index_in.ensures.0
