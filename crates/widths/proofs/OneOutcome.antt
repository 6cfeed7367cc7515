-- For each input the contract of a function that asks nothing leaves one answer: two that meet it, as the checker reads
-- it off the clauses, are equal.
use mathlib.Core.Path.{◌≡◌, sym, ◌∙◌}
use contract.Lifetimes.{Lfts}
use borrow.Fn.Kinds.{ended_of}
use borrow.Fn.World.{ArgsD, ResD}
use denote.Triple.Clauses.{AtExit}
use Rattle.widths.specs.contracts.least_width as least-width
use Rattle.widths.proofs.least_width.Kinds as least-width-kinds
use Rattle.widths.proofs.least_width.Reads as least-width-reads
use Rattle.widths.specs.contracts.is_width as is-width
use Rattle.widths.proofs.is_width.Kinds as is-width-kinds
use Rattle.widths.proofs.is_width.Reads as is-width-reads

pub least-width-one :
    (κs : Lfts 0) (a : ArgsD least-width.signature κs) (z z' : ResD least-width.signature κs)
    (e e' : AtExit (ended_of 0 least-width-kinds.ps least-width-kinds.r) κs)
    → least-width-reads.Post κs a z e → least-width-reads.Post κs a z' e' → z ≡ z'
least-width-one κs a z z' e e' p p' = p ∙ sym p'

pub is-width-one :
    (κs : Lfts 0) (a : ArgsD is-width.signature κs) (z z' : ResD is-width.signature κs)
    (e e' : AtExit (ended_of 0 is-width-kinds.ps is-width-kinds.r) κs)
    → is-width-reads.Post κs a z e → is-width-reads.Post κs a z' e' → z ≡ z'
is-width-one κs a z z' e e' p p' = p ∙ sym p'
