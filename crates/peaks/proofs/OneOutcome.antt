-- For each input the contract of `peak_within` leaves one outcome: two answers that meet it, as the checker reads it
-- off the clauses, are equal. No buffer is written.
use mathlib.Core.Path.{◌≡◌, sym, ◌∙◌}
use contract.Lifetimes.{Lfts}
use borrow.Fn.Kinds.{ended_of}
use borrow.Fn.World.{ArgsD, ResD}
use denote.Triple.Clauses.{AtExit}
use Rattle.peaks.specs.contracts.peak_within as peak-within
use Rattle.peaks.proofs.peak_within.Kinds as peak-within-kinds
use Rattle.peaks.proofs.peak_within.Reads as peak-within-reads

pub peak-within-one :
    (κs : Lfts 1) (a : ArgsD peak-within.signature κs) (z z' : ResD peak-within.signature κs)
    (e e' : AtExit (ended_of 1 peak-within-kinds.ps peak-within-kinds.r) κs) →
    peak-within-reads.Post κs a z e → peak-within-reads.Post κs a z' e' → z ≡ z'
peak-within-one κs a z z' e e' p p' = p ∙ sym p'
