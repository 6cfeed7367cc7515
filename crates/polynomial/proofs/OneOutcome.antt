-- For each input the contract of a public function leaves one outcome: two that meet it, as the checker reads it off
-- the clauses, have the same answer and leave the same in the lent buffer.
use mathlib.Core.Path.{◌≡◌, sym, ◌∙◌}
use contract.Lifetimes.{Lfts}
use borrow.Fn.Kinds.{ended_of}
use borrow.Fn.World.{ArgsD, ResD}
use denote.Triple.Clauses.{AtExit}
use Rattle.polynomial.specs.contracts.polynomial as polynomial
use Rattle.polynomial.proofs.polynomial.Kinds as polynomial-kinds
use Rattle.polynomial.proofs.polynomial.Reads as polynomial-reads

pub polynomial-one :
    (κs : Lfts 1) (a : ArgsD polynomial.signature κs) (z z' : ResD polynomial.signature κs)
    (e e' : AtExit (ended_of 1 polynomial-kinds.ps polynomial-kinds.r) κs) →
    polynomial-reads.Post κs a z e → polynomial-reads.Post κs a z' e'
    → (z ≡ z') × (e.1.1.1.1.0.now ≡ e'.1.1.1.1.0.now)
polynomial-one κs a z z' e e' p p' = (p.0 ∙ sym p'.0, p.1 ∙ sym p'.1)
