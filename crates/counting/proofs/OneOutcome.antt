-- For each input the contract of the public function leaves one outcome: two that meet it, as the checker reads it off
-- the clauses, have the same answer and leave the same in both lent buffers.
use mathlib.Core.Path.{◌≡◌, sym, ◌∙◌}
use contract.Lifetimes.{Lfts}
use borrow.Fn.Kinds.{ended_of}
use borrow.Fn.World.{ArgsD, ResD}
use denote.Triple.Clauses.{AtExit}
use Rattle.counting.specs.contracts.census as census
use Rattle.counting.proofs.census.Kinds as census-kinds
use Rattle.counting.proofs.census.Reads as census-reads

pub census-one :
    (κs : Lfts 2) (a : ArgsD census.signature κs) (z z' : ResD census.signature κs)
    (e e' : AtExit (ended_of 2 census-kinds.ps census-kinds.r) κs) →
    census-reads.Post κs a z e → census-reads.Post κs a z' e' → (z ≡ z')
    × (e.1.1.0.now ≡ e'.1.1.0.now) × (e.1.1.1.0.now ≡ e'.1.1.1.0.now)
census-one κs a z z' e e' p p' = (p.0 ∙ sym p'.0, p.1.0 ∙ sym p'.1.0, p.1.1 ∙ sym p'.1.1)
