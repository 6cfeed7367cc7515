-- One outcome for each input: two outcomes of a public function that meet its contract, read off its own clauses, have
-- equal answers, and leave equal buffers where one is written.
use mathlib.Core.Path.{◌≡◌, sym, ◌∙◌}
use contract.Lifetimes.{Lfts}
use borrow.Fn.Kinds.{ended_of}
use borrow.Fn.World.{ArgsD, ResD}
use denote.Triple.Clauses.{AtExit}
use Rattle.census_lines.specs.contracts.asked.has_newline
use Rattle.census_lines.proofs.asked.has_newline.Reads as has-newline-reads
use Rattle.census_lines.proofs.asked.has_newline.Kinds as has-newline-kinds
use Rattle.census_lines.specs.contracts.reply.answer_input
use Rattle.census_lines.proofs.reply.answer_input.Reads as answer-input-reads
use Rattle.census_lines.proofs.reply.answer_input.Kinds as answer-input-kinds

module _ (κs : Lfts 1) (a : ArgsD has_newline.signature κs) (z z' : ResD has_newline.signature κs)
    (e e' : AtExit (ended_of 1 has-newline-kinds.ps has-newline-kinds.r) κs) where
  pub one_test : has-newline-reads.Post κs a z e → has-newline-reads.Post κs a z' e' → z ≡ z'
  one_test p p' = p ∙ sym p'

module _ (κs : Lfts 2) (a : ArgsD answer_input.signature κs) (z z' : ResD answer_input.signature κs)
    (e e' : AtExit (ended_of 2 answer-input-kinds.ps answer-input-kinds.r) κs) where
  pub one_text : answer-input-reads.Post κs a z e → answer-input-reads.Post κs a z' e'
      → (z ≡ z') × (e.1.0.now ≡ e'.1.0.now)
  one_text p p' = (p.0.place ∙ sym p'.0.place, p.0.leaves ∙ sym p'.0.leaves)
