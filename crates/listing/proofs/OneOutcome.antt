-- One outcome for each input: two outcomes of a public function that meet its contract, read off its own clauses, have
-- equal answers and leave equal buffers.
use mathlib.Core.Path.{◌≡◌, sym, ◌∙◌, ap}
use mathlib.Core.List.{List}
use Prim.Native.Nat.{ℕ, ◌+◌}
use lib.ListN.{length, take}
use lib.Seq.{sets}
use contract.Lifetimes.{Lfts}
use borrow.Fn.Kinds.{ended_of}
use borrow.Fn.World.{ArgsD, ResD}
use denote.Triple.Clauses.{AtExit}
use Rattle.line_so_far.specs.declared.Line.{Line}
use Rattle.listing.specs.Ran.{Ran}
use Rattle.listing.specs.Stream.{after, printed}
use Rattle.listing.specs.declared.Progress.{Progress}
use Rattle.listing.specs.contracts.reply.answer_line
use Rattle.listing.proofs.reply.answer_line.Reads as answer-line-reads
use Rattle.listing.proofs.reply.answer_line.Kinds as answer-line-kinds
use Rattle.listing.specs.contracts.stream.run
use Rattle.listing.proofs.stream.run.Reads as run-reads
use Rattle.listing.proofs.stream.run.Kinds as run-kinds

-- two runs over one piece
module _ {line : Line} {piece l m m' : List ℕ} {r r' : Progress} (p : Ran line piece l m r)
    (p' : Ran line piece l m' r') where
  same_taken : r.taken ≡ r'.taken
  same_taken = p.took ∙ sym p'.took

  same_text : printed line (take r.taken piece) ≡ printed line (take r'.taken piece)
  same_text = ap (λ t. printed line (take t piece)) same_taken

  same_line : r.line ≡ r'.line
  same_line = p.left ∙ ap (λ t. after line (take t piece)) same_taken ∙ sym p'.left

  same_made : r.made ≡ r'.made
  same_made = p.puts.place ∙ ap (λ t. 0 + length t) same_text ∙ sym p'.puts.place

  one_progress : r ≡ r'
  one_progress = λ i. record { line = same_line i; taken = same_taken i; made = same_made i }

  one_buffer : m ≡ m'
  one_buffer = p.puts.leaves ∙ ap (sets l 0) same_text ∙ sym p'.puts.leaves

module _ (κs : Lfts 2) (a : ArgsD run.signature κs) (z z' : ResD run.signature κs)
    (e e' : AtExit (ended_of 2 run-kinds.ps run-kinds.r) κs) where
  pub one_run : run-reads.Post κs a z e → run-reads.Post κs a z' e' → (z ≡ z') × (e.1.1.0.now ≡ e'.1.1.0.now)
  one_run p p' = (one_progress p p', one_buffer p p')

module _ (κs : Lfts 2) (a : ArgsD answer_line.signature κs) (z z' : ResD answer_line.signature κs)
    (e e' : AtExit (ended_of 2 answer-line-kinds.ps answer-line-kinds.r) κs) where
  pub one-reply : answer-line-reads.Post κs a z e → answer-line-reads.Post κs a z' e'
      → (z ≡ z') × (e.1.1.0.now ≡ e'.1.1.0.now)
  one-reply p p' = (p.place ∙ sym p'.place, p.leaves ∙ sym p'.leaves)
