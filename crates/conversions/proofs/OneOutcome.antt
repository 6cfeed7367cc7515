-- For each input the contract of a public function leaves one outcome: two that meet it, as the checker reads it off
-- the clauses, have the same answer and leave the same in the lent buffer.
use mathlib.Core.Path.{◌≡◌, sym, ◌∙◌}
use contract.Lifetimes.{Lfts}
use borrow.Fn.Kinds.{ended_of}
use borrow.Fn.World.{ArgsD, ResD}
use denote.Triple.Clauses.{AtExit}
use Rattle.conversions.specs.contracts.to_half as to-half
use Rattle.conversions.proofs.to_half.Kinds as to-half-kinds
use Rattle.conversions.proofs.to_half.Reads as to-half-reads
use Rattle.conversions.specs.contracts.to_whole as to_whole
use Rattle.conversions.proofs.to_whole.Kinds as to-whole-kinds
use Rattle.conversions.proofs.to_whole.Reads as to-whole-reads

pub to-half-one :
    (κs : Lfts 2) (a : ArgsD to-half.signature κs) (z z' : ResD to-half.signature κs)
    (e e' : AtExit (ended_of 2 to-half-kinds.ps to-half-kinds.r) κs) →
    to-half-reads.Post κs a z e → to-half-reads.Post κs a z' e' → (z ≡ z') × (e.1.0.now ≡ e'.1.0.now)
to-half-one κs a z z' e e' p p' = (p.0 ∙ sym p'.0, p.1 ∙ sym p'.1)

pub to-whole-one :
    (κs : Lfts 2) (a : ArgsD to_whole.signature κs) (z z' : ResD to_whole.signature κs)
    (e e' : AtExit (ended_of 2 to-whole-kinds.ps to-whole-kinds.r) κs) →
    to-whole-reads.Post κs a z e → to-whole-reads.Post κs a z' e' → (z ≡ z') × (e.1.0.now ≡ e'.1.0.now)
to-whole-one κs a z z' e e' p p' = (p.0 ∙ sym p'.0, p.1 ∙ sym p'.1)
