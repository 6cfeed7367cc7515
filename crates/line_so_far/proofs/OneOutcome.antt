-- One outcome for each input: two outcomes of a public function that meet its contract, read off its own clauses, have
-- equal answers and leave equal buffers.
use Rattle.std.proofs.Common.{◌≡◌, sym, ◌∙◌}
use contract.Lifetimes.{Lfts}
use borrow.Fn.Kinds.{ended_of}
use borrow.Fn.World.{ArgsD, ResD}
use denote.Triple.Clauses.{AtExit}
use Rattle.line_so_far.specs.contracts.heading
use Rattle.line_so_far.proofs.heading.Reads as heading-reads
use Rattle.line_so_far.proofs.heading.Kinds as heading-kinds
use Rattle.line_so_far.specs.contracts.start
use Rattle.line_so_far.proofs.start.Reads as start-reads
use Rattle.line_so_far.proofs.start.Kinds as start-kinds
use Rattle.line_so_far.specs.contracts.Line.push as push
use Rattle.line_so_far.proofs.Line.push.Reads as push-reads
use Rattle.line_so_far.proofs.Line.push.Kinds as push-kinds
use Rattle.line_so_far.specs.contracts.Line.next as next
use Rattle.line_so_far.proofs.Line.next.Reads as next-reads
use Rattle.line_so_far.proofs.Line.next.Kinds as next-kinds

module _ (κs : Lfts 1) (a : ArgsD heading.signature κs) (z z' : ResD heading.signature κs)
    (e e' : AtExit (ended_of 1 heading-kinds.ps heading-kinds.r) κs) where
  pub one-heading : heading-reads.Post κs a z e → heading-reads.Post κs a z' e' → (z ≡ z') × (e.0.now ≡ e'.0.now)
  one-heading p p' = (p.0.place ∙ sym p'.0.place, p.0.leaves ∙ sym p'.0.leaves)

module _ (κs : Lfts 0) (a : ArgsD start.signature κs) (z z' : ResD start.signature κs)
    (e e' : AtExit (ended_of 0 start-kinds.ps start-kinds.r) κs) where
  pub one-start : start-reads.Post κs a z e → start-reads.Post κs a z' e' → z ≡ z'
  one-start p p' = p ∙ sym p'

module _ (κs : Lfts 1) (a : ArgsD push.signature κs) (z z' : ResD push.signature κs)
    (e e' : AtExit (ended_of 1 push-kinds.ps push-kinds.r) κs) where
  pub one_push : push-reads.Post κs a z e → push-reads.Post κs a z' e' → e.0.now ≡ e'.0.now
  one_push p p' = p ∙ sym p'

module _ (κs : Lfts 1) (a : ArgsD next.signature κs) (z z' : ResD next.signature κs)
    (e e' : AtExit (ended_of 1 next-kinds.ps next-kinds.r) κs) where
  pub one-next : next-reads.Post κs a z e → next-reads.Post κs a z' e' → e.0.now ≡ e'.0.now
  one-next p p' = p ∙ sym p'
