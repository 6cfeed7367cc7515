-- For each input the contract of each function leaves one outcome: two answers that meet it, as the checker reads it
-- off the clauses, are equal. No buffer is written.
use mathlib.Core.Path.{◌≡◌, sym, ◌∙◌}
use contract.Lifetimes.{Lfts}
use borrow.Fn.Kinds.{ended_of}
use borrow.Fn.World.{ArgsD, ResD}
use denote.Triple.Clauses.{AtExit}
use Rattle.heights.specs.contracts.magnitude as magnitude
use Rattle.heights.proofs.magnitude.Kinds as magnitude-kinds
use Rattle.heights.proofs.magnitude.Reads as magnitude-reads
use Rattle.heights.specs.contracts.larger as larger
use Rattle.heights.proofs.larger.Kinds as larger-kinds
use Rattle.heights.proofs.larger.Reads as larger-reads
use Rattle.heights.specs.contracts.smaller as smaller
use Rattle.heights.proofs.smaller.Kinds as smaller-kinds
use Rattle.heights.proofs.smaller.Reads as smaller-reads
use Rattle.heights.proofs.Looks.{next_one}
use Rattle.heights.specs.contracts.above as above
use Rattle.heights.proofs.above.Kinds as above-kinds
use Rattle.heights.proofs.above.Reads as above-reads
use Rattle.heights.specs.contracts.peak as peak
use Rattle.heights.proofs.peak.Kinds as peak-kinds
use Rattle.heights.proofs.peak.Reads as peak-reads

pub magnitude-one :
    (κs : Lfts 0) (a : ArgsD magnitude.signature κs) (z z' : ResD magnitude.signature κs)
    (e e' : AtExit (ended_of 0 magnitude-kinds.ps magnitude-kinds.r) κs) →
    magnitude-reads.Post κs a z e → magnitude-reads.Post κs a z' e' → z ≡ z'
magnitude-one κs a z z' e e' p p' = p ∙ sym p'

pub larger-one :
    (κs : Lfts 0) (a : ArgsD larger.signature κs) (z z' : ResD larger.signature κs)
    (e e' : AtExit (ended_of 0 larger-kinds.ps larger-kinds.r) κs) →
    larger-reads.Post κs a z e → larger-reads.Post κs a z' e' → z ≡ z'
larger-one κs a z z' e e' p p' = p ∙ sym p'

pub smaller-one :
    (κs : Lfts 0) (a : ArgsD smaller.signature κs) (z z' : ResD smaller.signature κs)
    (e e' : AtExit (ended_of 0 smaller-kinds.ps smaller-kinds.r) κs) →
    smaller-reads.Post κs a z e → smaller-reads.Post κs a z' e' → z ≡ z'
smaller-one κs a z z' e e' p p' = p ∙ sym p'

pub above-one :
    (κs : Lfts 1) (a : ArgsD above.signature κs) (z z' : ResD above.signature κs)
    (e e' : AtExit (ended_of 1 above-kinds.ps above-kinds.r) κs) →
    above-reads.Post κs a z e → above-reads.Post κs a z' e' → z ≡ z'
above-one κs a z z' e e' p p' = next_one p p'

pub peak-one :
    (κs : Lfts 1) (a : ArgsD peak.signature κs) (z z' : ResD peak.signature κs)
    (e e' : AtExit (ended_of 1 peak-kinds.ps peak-kinds.r) κs) →
    peak-reads.Post κs a z e → peak-reads.Post κs a z' e' → z ≡ z'
peak-one κs a z z' e e' p p' = p ∙ sym p'
