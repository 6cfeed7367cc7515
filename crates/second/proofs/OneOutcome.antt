-- For each input the contract of `second` leaves one outcome: two that meet it, as the checker reads it off the
-- clauses, have the same answer and leave the same in both lent buffers.
use mathlib.Core.Path.{◌≡◌, sym, ◌∙◌}
use contract.Lifetimes.{Lfts}
use borrow.Fn.Kinds.{ended_of}
use borrow.Fn.World.{ArgsD, ResD}
use denote.Triple.Clauses.{AtExit}
use Rattle.second.specs.contracts.second as second
use Rattle.second.proofs.second.Kinds as second-kinds
use Rattle.second.proofs.second.Reads as second_reads

pub second-one :
    (κs : Lfts 2) (a : ArgsD second.signature κs) (z z' : ResD second.signature κs)
    (e e' : AtExit (ended_of 2 second-kinds.ps second-kinds.r) κs) →
    second_reads.Post κs a z e → second_reads.Post κs a z' e'
    → (z ≡ z') × (e.1.1.1.0.now ≡ e'.1.1.1.0.now) × (e.1.1.1.1.0.now ≡ e'.1.1.1.1.0.now)
second-one κs a z z' e e' p p' =
    (p.0 ∙ sym p'.0, p.1.0 ∙ sym p'.1.0, p.1.1 ∙ sym p'.1.1)
