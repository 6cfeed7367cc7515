-- For each input the contract of a public function leaves one outcome: two that meet it, as the checker reads it off
-- the clauses, have the same answer and leave the same in the lent buffer.
use mathlib.Core.Path.{◌≡◌, sym, ◌∙◌}
use contract.Lifetimes.{Lfts}
use borrow.Fn.Kinds.{ended_of}
use borrow.Fn.World.{ArgsD, ResD}
use denote.Triple.Clauses.{AtExit}
use Rattle.half_records.specs.contracts.write_half as write
use Rattle.half_records.proofs.write_half.Kinds as write-kinds
use Rattle.half_records.proofs.write_half.Reads as write-reads
use Rattle.half_records.specs.contracts.read_half as read
use Rattle.half_records.proofs.read_half.Kinds as read-kinds
use Rattle.half_records.proofs.read_half.Reads as read-reads

pub write-one :
    (κs : Lfts 2) (a : ArgsD write.signature κs) (z z' : ResD write.signature κs)
    (e e' : AtExit (ended_of 2 write-kinds.ps write-kinds.r) κs) →
    write-reads.Post κs a z e → write-reads.Post κs a z' e' → (z ≡ z') × (e.1.1.1.0.now ≡ e'.1.1.1.0.now)
write-one κs a z z' e e' p p' = (p.0 ∙ sym p'.0, p.1 ∙ sym p'.1)

pub read_one :
    (κs : Lfts 2) (a : ArgsD read.signature κs) (z z' : ResD read.signature κs)
    (e e' : AtExit (ended_of 2 read-kinds.ps read-kinds.r) κs) →
    read-reads.Post κs a z e → read-reads.Post κs a z' e' → (z ≡ z') × (e.1.0.now ≡ e'.1.0.now)
read_one κs a z z' e e' p p' = (p.0 ∙ sym p'.0, p.1 ∙ sym p'.1)
