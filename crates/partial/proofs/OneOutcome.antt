-- For each input the contract of a public function leaves one outcome: two that meet it, as the checker reads it off
-- the clauses, have the same answer and leave the same in the lent buffer.
use mathlib.Core.Path.{◌≡◌, sym, ◌∙◌}
use contract.Lifetimes.{Lfts}
use borrow.Fn.Kinds.{ended_of}
use borrow.Fn.World.{ArgsD, ResD}
use denote.Triple.Clauses.{AtExit}
use Rattle.partial.specs.contracts.partial as partial
use Rattle.partial.proofs.partial.Kinds as partial-kinds
use Rattle.partial.proofs.partial.Reads as partial-reads

pub partial-one :
    (κs : Lfts 1) (a : ArgsD partial.signature κs) (z z' : ResD partial.signature κs)
    (e e' : AtExit (ended_of 1 partial-kinds.ps partial-kinds.r) κs) →
    partial-reads.Post κs a z e → partial-reads.Post κs a z' e'
    → (z ≡ z') × (e.1.1.1.1.0.now ≡ e'.1.1.1.1.0.now)
partial-one κs a z z' e e' p p' = (p.0 ∙ sym p'.0, p.1 ∙ sym p'.1)
