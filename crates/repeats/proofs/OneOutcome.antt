-- For each input that its `requires` admits the contract of a function leaves one outcome: two that meet it, as the
-- checker reads it off the clauses, leave the same in the slice.
use mathlib.Core.Path.{◌≡◌, sym, ◌∙◌}
use contract.Lifetimes.{Lfts}
use borrow.Fn.Kinds.{ended_of}
use borrow.Fn.World.{ArgsD, ResD}
use denote.Triple.Clauses.{AtExit}
use Rattle.repeats.specs.contracts.repeat as repeat
use Rattle.repeats.proofs.repeat.Kinds as repeat-kinds
use Rattle.repeats.proofs.repeat.Reads as repeat-reads
use Rattle.repeats.specs.contracts.accumulate_repeated as accumulate-repeated
use Rattle.repeats.proofs.accumulate_repeated.Kinds as accumulate-repeated-kinds
use Rattle.repeats.proofs.accumulate_repeated.Reads as accumulate-repeated-reads

pub repeat-one :
    (κs : Lfts 1) (a : ArgsD repeat.signature κs) (z z' : ResD repeat.signature κs)
    (e e' : AtExit (ended_of 1 repeat-kinds.ps repeat-kinds.r) κs)
    → repeat-reads.Post κs a z e → repeat-reads.Post κs a z' e' → e.0.now ≡ e'.0.now
repeat-one κs a z z' e e' p p' = p ∙ sym p'

pub accumulate-repeated-one :
    (κs : Lfts 1) (a : ArgsD accumulate-repeated.signature κs) (z z' : ResD accumulate-repeated.signature κs)
    (e e' : AtExit (ended_of 1 accumulate-repeated-kinds.ps accumulate-repeated-kinds.r) κs)
    → accumulate-repeated-reads.Post κs a z e → accumulate-repeated-reads.Post κs a z' e' → e.0.now ≡ e'.0.now
accumulate-repeated-one κs a z z' e e' p p' = p ∙ sym p'
