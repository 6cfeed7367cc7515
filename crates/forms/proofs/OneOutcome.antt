-- For each input the contract of a function that asks nothing leaves one answer: two that meet it, as the checker reads
-- it off the clauses, are equal.
use mathlib.Core.Path.{◌≡◌, sym, ◌∙◌}
use contract.Lifetimes.{Lfts}
use borrow.Fn.Kinds.{ended_of}
use borrow.Fn.World.{ArgsD, ResD}
use denote.Triple.Clauses.{AtExit}
use Rattle.forms.specs.contracts.mark_of as mark_of
use Rattle.forms.proofs.mark_of.Kinds as mark-of-kinds
use Rattle.forms.proofs.mark_of.Reads as mark-of-reads
use Rattle.forms.specs.contracts.Written.refused as written
use Rattle.forms.proofs.Written.refused.Kinds as written-kinds
use Rattle.forms.proofs.Written.refused.Reads as written-reads
use Rattle.forms.specs.contracts.Record.refused as record-refused
use Rattle.forms.proofs.Record.refused.Kinds as record-refused-kinds
use Rattle.forms.proofs.Record.refused.Reads as record-refused-reads
use Rattle.forms.specs.contracts.Written.of as written-of
use Rattle.forms.proofs.Written.of.Kinds as written-of-kinds
use Rattle.forms.proofs.Written.of.Reads as written-of-reads
use Rattle.forms.specs.contracts.Record.of as record-of
use Rattle.forms.proofs.Record.of.Kinds as record-of-kinds
use Rattle.forms.proofs.Record.of.Reads as record-of-reads

pub mark-of-one :
    (κs : Lfts 0) (a : ArgsD mark_of.signature κs) (z z' : ResD mark_of.signature κs)
    (e e' : AtExit (ended_of 0 mark-of-kinds.ps mark-of-kinds.r) κs)
    → mark-of-reads.Post κs a z e → mark-of-reads.Post κs a z' e' → z ≡ z'
mark-of-one κs a z z' e e' p p' = p ∙ sym p'

pub written_one :
    (κs : Lfts 0) (a : ArgsD written.signature κs) (z z' : ResD written.signature κs)
    (e e' : AtExit (ended_of 0 written-kinds.ps written-kinds.r) κs)
    → written-reads.Post κs a z e → written-reads.Post κs a z' e' → z ≡ z'
written_one κs a z z' e e' p p' = p ∙ sym p'

pub record-refused-one :
    (κs : Lfts 0) (a : ArgsD record-refused.signature κs) (z z' : ResD record-refused.signature κs)
    (e e' : AtExit (ended_of 0 record-refused-kinds.ps record-refused-kinds.r) κs)
    → record-refused-reads.Post κs a z e → record-refused-reads.Post κs a z' e' → z ≡ z'
record-refused-one κs a z z' e e' p p' = p ∙ sym p'

pub written-of-one :
    (κs : Lfts 0) (a : ArgsD written-of.signature κs) (z z' : ResD written-of.signature κs)
    (e e' : AtExit (ended_of 0 written-of-kinds.ps written-of-kinds.r) κs)
    → written-of-reads.Post κs a z e → written-of-reads.Post κs a z' e' → z ≡ z'
written-of-one κs a z z' e e' p p' = p ∙ sym p'

pub record-of-one :
    (κs : Lfts 0) (a : ArgsD record-of.signature κs) (z z' : ResD record-of.signature κs)
    (e e' : AtExit (ended_of 0 record-of-kinds.ps record-of-kinds.r) κs)
    → record-of-reads.Post κs a z e → record-of-reads.Post κs a z' e' → z ≡ z'
record-of-one κs a z z' e e' p p' = p ∙ sym p'
