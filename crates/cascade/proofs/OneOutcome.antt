-- For each input the contract of `cascade` leaves one outcome: two that meet it, as the checker reads it off the
-- clauses, have the same answer and leave the same in both lent buffers.
use mathlib.Core.Path.{◌≡◌, sym, ◌∙◌}
use contract.Lifetimes.{Lfts}
use borrow.Fn.Kinds.{ended_of}
use borrow.Fn.World.{ArgsD, ResD}
use denote.Triple.Clauses.{AtExit}
use Rattle.cascade.specs.contracts.cascade as cascade
use Rattle.cascade.proofs.cascade.Kinds as cascade-kinds
use Rattle.cascade.proofs.cascade.Reads as cascade-reads

pub cascade-one :
    (κs : Lfts 3) (a : ArgsD cascade.signature κs) (z z' : ResD cascade.signature κs)
    (e e' : AtExit (ended_of 3 cascade-kinds.ps cascade-kinds.r) κs) →
    cascade-reads.Post κs a z e → cascade-reads.Post κs a z' e'
    → (z ≡ z') × (e.1.1.0.now ≡ e'.1.1.0.now) × (e.1.1.1.0.now ≡ e'.1.1.1.0.now)
cascade-one κs a z z' e e' p p' =
    (p.0 ∙ sym p'.0, p.1.0 ∙ sym p'.1.0, p.1.1 ∙ sym p'.1.1)
