-- For each input the contract of a public function leaves one outcome: two that meet it, as the checker reads it off
-- the clauses, have the same answer and leave the same in the lent buffers.
use mathlib.Core.Path.{◌≡◌, sym, ◌∙◌}
use contract.Lifetimes.{Lfts}
use borrow.Fn.Kinds.{ended_of}
use borrow.Fn.World.{ArgsD, ResD}
use denote.Triple.Clauses.{AtExit}
use Rattle.rescuing.specs.contracts.rescue as rescue
use Rattle.rescuing.proofs.rescue.Kinds as rescue-kinds
use Rattle.rescuing.proofs.rescue.Reads as rescue-reads

pub rescue-one :
    (κs : Lfts 4) (a : ArgsD rescue.signature κs) (z z' : ResD rescue.signature κs)
    (e e' : AtExit (ended_of 4 rescue-kinds.ps rescue-kinds.r) κs) →
    rescue-reads.Post κs a z e → rescue-reads.Post κs a z' e' → (z ≡ z') × (e.1.0.now ≡ e'.1.0.now)
    × (e.1.1.0.now ≡ e'.1.1.0.now) × (e.1.1.1.0.now ≡ e'.1.1.1.0.now)
rescue-one κs a z z' e e' p p' = (
  p.0 ∙ sym p'.0,
  p.1.0 ∙ sym p'.1.0,
  p.1.1.0 ∙ sym p'.1.1.0,
  p.1.1.1 ∙ sym p'.1.1.1,
)
