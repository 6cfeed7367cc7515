-- For each input the contract of a function that asks nothing leaves one answer: two that meet it, as the checker reads
-- it off the clauses, are equal.
use mathlib.Core.Path.{◌≡◌, sym, ◌∙◌}
use contract.Lifetimes.{Lfts}
use borrow.Fn.Kinds.{ended_of}
use borrow.Fn.World.{ArgsD, ResD}
use denote.Triple.Clauses.{AtExit}
use Rattle.record.specs.contracts.header.check_header as header-code
use Rattle.record.proofs.header.check_header.Kinds as header-code-kinds
use Rattle.record.proofs.header.check_header.Reads as header-code-reads
use Rattle.record.specs.contracts.header.byte_of as byte_of
use Rattle.record.proofs.header.byte_of.Kinds as byte-of-kinds
use Rattle.record.proofs.header.byte_of.Reads as byte-of-reads
use Rattle.record.specs.contracts.header.byte_for as byte_for
use Rattle.record.proofs.header.byte_for.Kinds as byte-for-kinds
use Rattle.record.proofs.header.byte_for.Reads as byte-for-reads
use Rattle.record.proofs.Refused.{same_code}

pub header-code-one :
    (κs : Lfts 1) (a : ArgsD header-code.signature κs) (z z' : ResD header-code.signature κs)
    (e e' : AtExit (ended_of 1 header-code-kinds.ps header-code-kinds.r) κs)
    → header-code-reads.Post κs a z e → header-code-reads.Post κs a z' e' → z ≡ z'
header-code-one κs a z z' e e' p p' = same_code z z' (p ∙ sym p')

pub byte-of-one :
    (κs : Lfts 0) (a : ArgsD byte_of.signature κs) (z z' : ResD byte_of.signature κs)
    (e e' : AtExit (ended_of 0 byte-of-kinds.ps byte-of-kinds.r) κs)
    → byte-of-reads.Post κs a z e → byte-of-reads.Post κs a z' e' → z ≡ z'
byte-of-one κs a z z' e e' p p' = p ∙ sym p'

pub byte-for-one :
    (κs : Lfts 0) (a : ArgsD byte_for.signature κs) (z z' : ResD byte_for.signature κs)
    (e e' : AtExit (ended_of 0 byte-for-kinds.ps byte-for-kinds.r) κs)
    → byte-for-reads.Post κs a z e → byte-for-reads.Post κs a z' e' → z ≡ z'
byte-for-one κs a z z' e e' p p' = p ∙ sym p'
