-- For each code and degree the contract leaves one refusal: two that meet it, as the checker reads it off the clauses,
-- are equal.
use mathlib.Core.Path.{◌≡◌, sym, ◌∙◌}
use contract.Lifetimes.{Lfts}
use borrow.Fn.Kinds.{ended_of}
use borrow.Fn.World.{ArgsD, ResD}
use denote.Triple.Clauses.{AtExit}
use Rattle.answers.specs.contracts.Answer.refused as answer
use Rattle.answers.proofs.Answer.refused.Kinds as answer-kinds
use Rattle.answers.proofs.Answer.refused.Reads as answer-reads
use Rattle.answers.specs.contracts.Stop.refused as stop
use Rattle.answers.proofs.Stop.refused.Kinds as stop-kinds
use Rattle.answers.proofs.Stop.refused.Reads as stop-reads
use Rattle.answers.specs.contracts.known_kind as known-kind
use Rattle.answers.proofs.known_kind.Kinds as known-kind-kinds
use Rattle.answers.proofs.known_kind.Reads as known-kind-reads
use Rattle.answers.specs.contracts.good_index as good_index_lem
use Rattle.answers.proofs.good_index.Kinds as good-index-kinds
use Rattle.answers.proofs.good_index.Reads as good-index-reads
use Rattle.answers.specs.contracts.negates as negates
use Rattle.answers.proofs.negates.Kinds as negates-kinds
use Rattle.answers.proofs.negates.Reads as negates-reads
use Rattle.answers.specs.contracts.Answer.of as answer-of
use Rattle.answers.proofs.Answer.of.Kinds as answer-of-kinds
use Rattle.answers.proofs.Answer.of.Reads as answer-of-reads
use Rattle.answers.specs.contracts.Stop.of as stop-of
use Rattle.answers.proofs.Stop.of.Kinds as stop-of-kinds
use Rattle.answers.proofs.Stop.of.Reads as stop-of-reads

pub answer-one :
    (κs : Lfts 0) (a : ArgsD answer.signature κs) (z z' : ResD answer.signature κs)
    (e e' : AtExit (ended_of 0 answer-kinds.ps answer-kinds.r) κs)
    → answer-reads.Post κs a z e → answer-reads.Post κs a z' e' → z ≡ z'
answer-one κs a z z' e e' p p' = p ∙ sym p'

pub stop-one :
    (κs : Lfts 0) (a : ArgsD stop.signature κs) (z z' : ResD stop.signature κs)
    (e e' : AtExit (ended_of 0 stop-kinds.ps stop-kinds.r) κs)
    → stop-reads.Post κs a z e → stop-reads.Post κs a z' e' → z ≡ z'
stop-one κs a z z' e e' p p' = p ∙ sym p'

pub known-kind-one :
    (κs : Lfts 0) (a : ArgsD known-kind.signature κs) (z z' : ResD known-kind.signature κs)
    (e e' : AtExit (ended_of 0 known-kind-kinds.ps known-kind-kinds.r) κs)
    → known-kind-reads.Post κs a z e → known-kind-reads.Post κs a z' e' → z ≡ z'
known-kind-one κs a z z' e e' p p' = p ∙ sym p'

pub good-index-one :
    (κs : Lfts 0) (a : ArgsD good_index_lem.signature κs) (z z' : ResD good_index_lem.signature κs)
    (e e' : AtExit (ended_of 0 good-index-kinds.ps good-index-kinds.r) κs)
    → good-index-reads.Post κs a z e → good-index-reads.Post κs a z' e' → z ≡ z'
good-index-one κs a z z' e e' p p' = p ∙ sym p'

pub negates-one :
    (κs : Lfts 0) (a : ArgsD negates.signature κs) (z z' : ResD negates.signature κs)
    (e e' : AtExit (ended_of 0 negates-kinds.ps negates-kinds.r) κs)
    → negates-reads.Post κs a z e → negates-reads.Post κs a z' e' → z ≡ z'
negates-one κs a z z' e e' p p' = p ∙ sym p'

pub answer-of-one :
    (κs : Lfts 0) (a : ArgsD answer-of.signature κs) (z z' : ResD answer-of.signature κs)
    (e e' : AtExit (ended_of 0 answer-of-kinds.ps answer-of-kinds.r) κs)
    → answer-of-reads.Post κs a z e → answer-of-reads.Post κs a z' e' → z ≡ z'
answer-of-one κs a z z' e e' p p' = p ∙ sym p'

pub stop-of-one :
    (κs : Lfts 0) (a : ArgsD stop-of.signature κs) (z z' : ResD stop-of.signature κs)
    (e e' : AtExit (ended_of 0 stop-of-kinds.ps stop-of-kinds.r) κs)
    → stop-of-reads.Post κs a z e → stop-of-reads.Post κs a z' e' → z ≡ z'
stop-of-one κs a z z' e e' p p' = p ∙ sym p'
