-- For each input the contract of a public function leaves one outcome: two that meet it, as the checker reads it off
-- the clauses, have the same answer and leave the same in the lent buffer.
use mathlib.Core.Path.{◌≡◌, sym, ◌∙◌}
use contract.Lifetimes.{Lfts}
use borrow.Fn.Kinds.{ended_of}
use borrow.Fn.World.{ArgsD, ResD}
use denote.Triple.Clauses.{AtExit}
use Rattle.shelf.specs.contracts.write as write
use Rattle.shelf.proofs.write.Kinds as write-kinds
use Rattle.shelf.proofs.write.Reads as write-reads
use Rattle.shelf.specs.contracts.read as read
use Rattle.shelf.proofs.read.Kinds as read-kinds
use Rattle.shelf.proofs.read.Reads as read-reads
use Rattle.shelf.specs.contracts.look as look
use Rattle.shelf.proofs.look.Kinds as look-kinds
use Rattle.shelf.proofs.look.Reads as look-reads

pub write-one :
    (κs : Lfts 2) (a : ArgsD write.signature κs) (z z' : ResD write.signature κs)
    (e e' : AtExit (ended_of 2 write-kinds.ps write-kinds.r) κs) →
    write-reads.Post κs a z e → write-reads.Post κs a z' e' → (z ≡ z') × (e.1.1.1.0.now ≡ e'.1.1.1.0.now)
write-one κs a z z' e e' p p' = (p.0 ∙ sym p'.0, p.1 ∙ sym p'.1)

pub read_one :
    (κs : Lfts 2) (a : ArgsD read.signature κs) (z z' : ResD read.signature κs)
    (e e' : AtExit (ended_of 2 read-kinds.ps read-kinds.r) κs) →
    read-reads.Post κs a z e → read-reads.Post κs a z' e' → (z ≡ z') × (e.1.0.now ≡ e'.1.0.now)
read_one κs a z z' e e' p p' = (p.0 ∙ sym p'.0, p.1 ∙ sym p'.1)

pub look_one :
    (κs : Lfts 1) (a : ArgsD look.signature κs) (z z' : ResD look.signature κs)
    (e e' : AtExit (ended_of 1 look-kinds.ps look-kinds.r) κs)
    → look-reads.Post κs a z e → look-reads.Post κs a z' e' → z ≡ z'
look_one κs a z z' e e' p p' = p ∙ sym p'
