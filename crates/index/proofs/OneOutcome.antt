-- For each input the contract of a public function leaves one answer: two that meet it, as the checker reads it off the
-- clauses, are equal.
use mathlib.Core.Path.{◌≡◌, sym, ◌∙◌}
use contract.Lifetimes.{Lfts}
use borrow.Fn.Kinds.{ended_of}
use borrow.Fn.World.{ArgsD, ResD}
use denote.Triple.Clauses.{AtExit}
use Rattle.index.specs.contracts.take_apart as take-apart
use Rattle.index.proofs.take_apart.Kinds as take-apart-kinds
use Rattle.index.proofs.take_apart.Reads as take-apart-reads
use Rattle.index.specs.contracts.degree_from as degree-from
use Rattle.index.proofs.degree_from.Kinds as degree-from-kinds
use Rattle.index.proofs.degree_from.Reads as degree-from-reads
use Rattle.index.specs.contracts.degree_of as degree-of
use Rattle.index.proofs.degree_of.Kinds as degree-of-kinds
use Rattle.index.proofs.degree_of.Reads as degree-of-reads
use Rattle.index.specs.contracts.half_degree as half-degree
use Rattle.index.proofs.half_degree.Kinds as half-degree-kinds
use Rattle.index.proofs.half_degree.Reads as half-degree-reads

pub take-apart-one :
    (κs : Lfts 0) (a : ArgsD take-apart.signature κs) (z z' : ResD take-apart.signature κs)
    (e e' : AtExit (ended_of 0 take-apart-kinds.ps take-apart-kinds.r) κs)
    → take-apart-reads.Post κs a z e → take-apart-reads.Post κs a z' e' → z ≡ z'
take-apart-one κs a z z' e e' p p' = p ∙ sym p'

pub degree-from-one :
    (κs : Lfts 0) (a : ArgsD degree-from.signature κs) (z z' : ResD degree-from.signature κs)
    (e e' : AtExit (ended_of 0 degree-from-kinds.ps degree-from-kinds.r) κs)
    → degree-from-reads.Post κs a z e → degree-from-reads.Post κs a z' e' → z ≡ z'
degree-from-one κs a z z' e e' p p' = p ∙ sym p'

pub degree-of-one :
    (κs : Lfts 0) (a : ArgsD degree-of.signature κs) (z z' : ResD degree-of.signature κs)
    (e e' : AtExit (ended_of 0 degree-of-kinds.ps degree-of-kinds.r) κs)
    → degree-of-reads.Post κs a z e → degree-of-reads.Post κs a z' e' → z ≡ z'
degree-of-one κs a z z' e e' p p' = p ∙ sym p'

pub half-degree-one :
    (κs : Lfts 0) (a : ArgsD half-degree.signature κs) (z z' : ResD half-degree.signature κs)
    (e e' : AtExit (ended_of 0 half-degree-kinds.ps half-degree-kinds.r) κs)
    → half-degree-reads.Post κs a z e → half-degree-reads.Post κs a z' e' → z ≡ z'
half-degree-one κs a z z' e e' p p' = p ∙ sym p'
