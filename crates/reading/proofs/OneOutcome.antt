-- For each input the contract of a function that asks nothing leaves one outcome: two that meet it, as the checker
-- reads it off the clauses, have the same answer and leave the same in the lent buffer.
use mathlib.Core.Path.{◌≡◌, sym, ◌∙◌}
use contract.Lifetimes.{Lfts}
use borrow.Fn.Kinds.{ended_of}
use borrow.Fn.World.{ArgsD, ResD}
use denote.Triple.Clauses.{AtExit}
use Rattle.reading.specs.contracts.read as read
use Rattle.reading.proofs.read.Kinds as read-kinds
use Rattle.reading.proofs.read.Reads as read-reads
use Rattle.reading.specs.contracts.look as look
use Rattle.reading.proofs.look.Kinds as look-kinds
use Rattle.reading.proofs.look.Reads as look-reads
use Rattle.record.proofs.Refused.{same_code}

pub read_one :
    (κs : Lfts 2) (a : ArgsD read.signature κs) (z z' : ResD read.signature κs)
    (e e' : AtExit (ended_of 2 read-kinds.ps read-kinds.r) κs) →
    read-reads.Post κs a z e → read-reads.Post κs a z' e' → (z ≡ z') × (e.1.1.0.now ≡ e'.1.1.0.now)
read_one κs a z z' e e' p p' = (p.0 ∙ sym p'.0, p.1 ∙ sym p'.1)

pub look_one :
    (κs : Lfts 1) (a : ArgsD look.signature κs) (z z' : ResD look.signature κs)
    (e e' : AtExit (ended_of 1 look-kinds.ps look-kinds.r) κs)
    → look-reads.Post κs a z e → look-reads.Post κs a z' e' → z ≡ z'
look_one κs a z z' e e' p p' = same_code z z' (p ∙ sym p')
