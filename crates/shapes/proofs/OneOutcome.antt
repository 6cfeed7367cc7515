-- For each input that its `requires` admits the contract of a function leaves one outcome: two that meet it, as the
-- checker reads it off the clauses, leave the same in the slice.
use mathlib.Core.Path.{◌≡◌, sym, ◌∙◌}
use contract.Lifetimes.{Lfts}
use borrow.Fn.Kinds.{ended_of}
use borrow.Fn.World.{ArgsD, ResD}
use denote.Triple.Clauses.{AtExit}
use Rattle.shapes.specs.contracts.clear as clear
use Rattle.shapes.proofs.clear.Kinds as clear-kinds
use Rattle.shapes.proofs.clear.Reads as clear_reads
use Rattle.shapes.specs.contracts.mirror as mirror
use Rattle.shapes.proofs.mirror.Kinds as mirror-kinds
use Rattle.shapes.proofs.mirror.Reads as mirror-reads
use Rattle.shapes.specs.contracts.alternate as alternate
use Rattle.shapes.proofs.alternate.Kinds as alternate-kinds
use Rattle.shapes.proofs.alternate.Reads as alternate-reads
use Rattle.shapes.specs.contracts.negated_copy as negated-copy
use Rattle.shapes.proofs.negated_copy.Kinds as negated-copy-kinds
use Rattle.shapes.proofs.negated_copy.Reads as negated-copy-reads
use Rattle.shapes.specs.contracts.spread as spread
use Rattle.shapes.proofs.spread.Kinds as spread-kinds
use Rattle.shapes.proofs.spread.Reads as spread-reads

pub clear-one :
    (κs : Lfts 1) (a : ArgsD clear.signature κs) (z z' : ResD clear.signature κs)
    (e e' : AtExit (ended_of 1 clear-kinds.ps clear-kinds.r) κs)
    → clear_reads.Post κs a z e → clear_reads.Post κs a z' e' → e.0.now ≡ e'.0.now
clear-one κs a z z' e e' p p' = p ∙ sym p'

pub mirror-one :
    (κs : Lfts 1) (a : ArgsD mirror.signature κs) (z z' : ResD mirror.signature κs)
    (e e' : AtExit (ended_of 1 mirror-kinds.ps mirror-kinds.r) κs)
    → mirror-reads.Post κs a z e → mirror-reads.Post κs a z' e' → e.0.now ≡ e'.0.now
mirror-one κs a z z' e e' p p' = p ∙ sym p'

pub alternate-one :
    (κs : Lfts 1) (a : ArgsD alternate.signature κs) (z z' : ResD alternate.signature κs)
    (e e' : AtExit (ended_of 1 alternate-kinds.ps alternate-kinds.r) κs)
    → alternate-reads.Post κs a z e → alternate-reads.Post κs a z' e' → e.0.now ≡ e'.0.now
alternate-one κs a z z' e e' p p' = p ∙ sym p'

pub negated-copy-one :
    (κs : Lfts 1) (a : ArgsD negated-copy.signature κs) (z z' : ResD negated-copy.signature κs)
    (e e' : AtExit (ended_of 1 negated-copy-kinds.ps negated-copy-kinds.r) κs)
    → negated-copy-reads.Post κs a z e → negated-copy-reads.Post κs a z' e' → e.0.now ≡ e'.0.now
negated-copy-one κs a z z' e e' p p' = p ∙ sym p'

pub spread-one :
    (κs : Lfts 1) (a : ArgsD spread.signature κs) (z z' : ResD spread.signature κs)
    (e e' : AtExit (ended_of 1 spread-kinds.ps spread-kinds.r) κs)
    → spread-reads.Post κs a z e → spread-reads.Post κs a z' e' → e.0.now ≡ e'.0.now
spread-one κs a z z' e e' p p' = p ∙ sym p'
