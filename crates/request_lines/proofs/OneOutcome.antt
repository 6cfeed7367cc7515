-- One outcome for each input: two answers that meet the contract, read off the function's own clauses, are equal. No
-- buffer is written.
use mathlib.Core.Path.{◌≡◌, sym, ◌∙◌}
use contract.Lifetimes.{Lfts}
use borrow.Fn.Kinds.{ended_of}
use borrow.Fn.World.{ArgsD, ResD}
use denote.Triple.Clauses.{AtExit}
use Rattle.request_lines.specs.contracts.read_line
use Rattle.request_lines.proofs.read_line.Reads as read-line-reads
use Rattle.request_lines.proofs.read_line.Kinds as read-line-kinds

module _ (κs : Lfts 1) (a : ArgsD read_line.signature κs) (z z' : ResD read_line.signature κs)
    (e e' : AtExit (ended_of 1 read-line-kinds.ps read-line-kinds.r) κs) where
  pub one_request : read-line-reads.Post κs a z e → read-line-reads.Post κs a z' e' → z ≡ z'
  one_request p p' = p.0 ∙ sym p'.0
