-- For each input the contract of each function of the C library leaves one outcome: two that meet it, as the checker
-- reads it off the clauses, have the same answer and leave the same in the lent slices.
use mathlib.Core.Path.{◌≡◌, sym, ◌∙◌}
use contract.Lifetimes.{Lfts}
use borrow.Fn.Kinds.{ended_of}
use borrow.Fn.World.{ArgsD, ResD}
use denote.Triple.Clauses.{AtExit}
use Rattle.bonvedrick.specs.contracts.bv_polynomial as polynomial
use Rattle.bonvedrick.proofs.bv_polynomial.Kinds as polynomial-kinds
use Rattle.bonvedrick.proofs.bv_polynomial.Reads as polynomial-reads
use Rattle.bonvedrick.specs.contracts.bv_partial as partial
use Rattle.bonvedrick.proofs.bv_partial.Kinds as partial-kinds
use Rattle.bonvedrick.proofs.bv_partial.Reads as partial-reads
use Rattle.bonvedrick.specs.contracts.bv_cascade as cascade
use Rattle.bonvedrick.specs.contracts.bv_second as second
use Rattle.bonvedrick.proofs.bv_cascade.Kinds as cascade-kinds
use Rattle.bonvedrick.proofs.bv_second.Kinds as second-kinds
use Rattle.bonvedrick.proofs.bv_cascade.Reads as cascade-reads
use Rattle.bonvedrick.proofs.bv_second.Reads as second_reads
use Rattle.bonvedrick.specs.contracts.bv_write as write
use Rattle.bonvedrick.proofs.bv_write.Kinds as write-kinds
use Rattle.bonvedrick.proofs.bv_write.Reads as write-reads
use Rattle.bonvedrick.specs.contracts.bv_read as read
use Rattle.bonvedrick.proofs.bv_read.Kinds as read-kinds
use Rattle.bonvedrick.proofs.bv_read.Reads as read-reads
use Rattle.bonvedrick.specs.contracts.bv_write_half as write-half
use Rattle.bonvedrick.proofs.bv_write_half.Kinds as write-half-kinds
use Rattle.bonvedrick.proofs.bv_write_half.Reads as write-half-reads
use Rattle.bonvedrick.specs.contracts.bv_read_half as read-half
use Rattle.bonvedrick.proofs.bv_read_half.Kinds as read-half-kinds
use Rattle.bonvedrick.proofs.bv_read_half.Reads as read-half-reads
use Rattle.bonvedrick.specs.contracts.bv_to_half as to-half
use Rattle.bonvedrick.proofs.bv_to_half.Kinds as to-half-kinds
use Rattle.bonvedrick.proofs.bv_to_half.Reads as to-half-reads
use Rattle.bonvedrick.specs.contracts.bv_to_whole as to_whole
use Rattle.bonvedrick.proofs.bv_to_whole.Kinds as to-whole-kinds
use Rattle.bonvedrick.proofs.bv_to_whole.Reads as to-whole-reads
use Rattle.bonvedrick.specs.contracts.bv_comb as comb
use Rattle.bonvedrick.proofs.bv_comb.Kinds as comb-kinds
use Rattle.bonvedrick.proofs.bv_comb.Reads as comb-reads
use Rattle.bonvedrick.specs.contracts.bv_accumulate as accumulate
use Rattle.bonvedrick.proofs.bv_accumulate.Kinds as accumulate-kinds
use Rattle.bonvedrick.proofs.bv_accumulate.Reads as accumulate-reads
use Rattle.bonvedrick.specs.contracts.bv_lookup as lookup
use Rattle.bonvedrick.proofs.bv_lookup.Kinds as lookup-kinds
use Rattle.bonvedrick.proofs.bv_lookup.Reads as lookup-reads
use Rattle.bonvedrick.specs.contracts.bv_browse as browse
use Rattle.bonvedrick.proofs.bv_browse.Kinds as browse-kinds
use Rattle.bonvedrick.proofs.bv_browse.Reads as browse-reads
use Rattle.bonvedrick.specs.contracts.bv_rescue as rescue
use Rattle.bonvedrick.proofs.bv_rescue.Kinds as rescue-kinds
use Rattle.bonvedrick.proofs.bv_rescue.Reads as rescue-reads
use Rattle.bonvedrick.specs.contracts.bv_response as response
use Rattle.bonvedrick.proofs.bv_response.Kinds as response-kinds
use Rattle.bonvedrick.proofs.bv_response.Reads as response-reads
use Rattle.bonvedrick.specs.contracts.bv_census as census
use Rattle.bonvedrick.proofs.bv_census.Kinds as census-kinds
use Rattle.bonvedrick.proofs.bv_census.Reads as census-reads

pub polynomial-one :
    (κs : Lfts 1) (a : ArgsD polynomial.signature κs) (z z' : ResD polynomial.signature κs)
    (e e' : AtExit (ended_of 1 polynomial-kinds.ps polynomial-kinds.r) κs) →
    polynomial-reads.Post κs a z e → polynomial-reads.Post κs a z' e'
    → (z ≡ z') × (e.1.1.1.1.0.now ≡ e'.1.1.1.1.0.now)
polynomial-one κs a z z' e e' p p' = (p.0 ∙ sym p'.0, p.1 ∙ sym p'.1)

pub partial-one :
    (κs : Lfts 1) (a : ArgsD partial.signature κs) (z z' : ResD partial.signature κs)
    (e e' : AtExit (ended_of 1 partial-kinds.ps partial-kinds.r) κs) →
    partial-reads.Post κs a z e → partial-reads.Post κs a z' e'
    → (z ≡ z') × (e.1.1.1.1.0.now ≡ e'.1.1.1.1.0.now)
partial-one κs a z z' e e' p p' = (p.0 ∙ sym p'.0, p.1 ∙ sym p'.1)

pub cascade-one :
    (κs : Lfts 3) (a : ArgsD cascade.signature κs) (z z' : ResD cascade.signature κs)
    (e e' : AtExit (ended_of 3 cascade-kinds.ps cascade-kinds.r) κs) →
    cascade-reads.Post κs a z e → cascade-reads.Post κs a z' e'
    → (z ≡ z') × (e.1.1.0.now ≡ e'.1.1.0.now) × (e.1.1.1.0.now ≡ e'.1.1.1.0.now)
cascade-one κs a z z' e e' p p' =
    (p.0 ∙ sym p'.0, p.1.0 ∙ sym p'.1.0, p.1.1 ∙ sym p'.1.1)

pub second-one :
    (κs : Lfts 2) (a : ArgsD second.signature κs) (z z' : ResD second.signature κs)
    (e e' : AtExit (ended_of 2 second-kinds.ps second-kinds.r) κs) →
    second_reads.Post κs a z e → second_reads.Post κs a z' e'
    → (z ≡ z') × (e.1.1.1.0.now ≡ e'.1.1.1.0.now) × (e.1.1.1.1.0.now ≡ e'.1.1.1.1.0.now)
second-one κs a z z' e e' p p' =
    (p.0 ∙ sym p'.0, p.1.0 ∙ sym p'.1.0, p.1.1 ∙ sym p'.1.1)

pub write-one :
    (κs : Lfts 2) (a : ArgsD write.signature κs) (z z' : ResD write.signature κs)
    (e e' : AtExit (ended_of 2 write-kinds.ps write-kinds.r) κs) →
    write-reads.Post κs a z e → write-reads.Post κs a z' e' → (z ≡ z') × (e.1.1.1.0.now ≡ e'.1.1.1.0.now)
write-one κs a z z' e e' p p' = (p.0 ∙ sym p'.0, p.1 ∙ sym p'.1)

pub read_one :
    (κs : Lfts 2) (a : ArgsD read.signature κs) (z z' : ResD read.signature κs)
    (e e' : AtExit (ended_of 2 read-kinds.ps read-kinds.r) κs) →
    read-reads.Post κs a z e → read-reads.Post κs a z' e' → (z ≡ z') × (e.1.0.now ≡ e'.1.0.now)
read_one κs a z z' e e' p p' = (p.0 ∙ sym p'.0, p.1 ∙ sym p'.1)

pub write-half-one :
    (κs : Lfts 2) (a : ArgsD write-half.signature κs) (z z' : ResD write-half.signature κs)
    (e e' : AtExit (ended_of 2 write-half-kinds.ps write-half-kinds.r) κs) →
    write-half-reads.Post κs a z e → write-half-reads.Post κs a z' e'
    → (z ≡ z') × (e.1.1.1.0.now ≡ e'.1.1.1.0.now)
write-half-one κs a z z' e e' p p' = (p.0 ∙ sym p'.0, p.1 ∙ sym p'.1)

pub read-half-one :
    (κs : Lfts 2) (a : ArgsD read-half.signature κs) (z z' : ResD read-half.signature κs)
    (e e' : AtExit (ended_of 2 read-half-kinds.ps read-half-kinds.r) κs) →
    read-half-reads.Post κs a z e → read-half-reads.Post κs a z' e' → (z ≡ z') × (e.1.0.now ≡ e'.1.0.now)
read-half-one κs a z z' e e' p p' = (p.0 ∙ sym p'.0, p.1 ∙ sym p'.1)

pub to-half-one :
    (κs : Lfts 2) (a : ArgsD to-half.signature κs) (z z' : ResD to-half.signature κs)
    (e e' : AtExit (ended_of 2 to-half-kinds.ps to-half-kinds.r) κs) →
    to-half-reads.Post κs a z e → to-half-reads.Post κs a z' e' → (z ≡ z') × (e.1.0.now ≡ e'.1.0.now)
to-half-one κs a z z' e e' p p' = (p.0 ∙ sym p'.0, p.1 ∙ sym p'.1)

pub to-whole-one :
    (κs : Lfts 2) (a : ArgsD to_whole.signature κs) (z z' : ResD to_whole.signature κs)
    (e e' : AtExit (ended_of 2 to-whole-kinds.ps to-whole-kinds.r) κs) →
    to-whole-reads.Post κs a z e → to-whole-reads.Post κs a z' e' → (z ≡ z') × (e.1.0.now ≡ e'.1.0.now)
to-whole-one κs a z z' e e' p p' = (p.0 ∙ sym p'.0, p.1 ∙ sym p'.1)

pub comb-one :
    (κs : Lfts 1) (a : ArgsD comb.signature κs) (z z' : ResD comb.signature κs)
    (e e' : AtExit (ended_of 1 comb-kinds.ps comb-kinds.r) κs) →
    comb-reads.Post κs a z e → comb-reads.Post κs a z' e' → (z ≡ z') × (e.1.1.0.now ≡ e'.1.1.0.now)
comb-one κs a z z' e e' p p' =
    ((λ i. record { code = (p.0 ∙ sym p'.0) i; count = (p.1.0 ∙ sym p'.1.0) i }), p.1.1 ∙ sym p'.1.1)

pub accumulate-one :
    (κs : Lfts 1) (a : ArgsD accumulate.signature κs) (z z' : ResD accumulate.signature κs)
    (e e' : AtExit (ended_of 1 accumulate-kinds.ps accumulate-kinds.r) κs) →
    accumulate-reads.Post κs a z e → accumulate-reads.Post κs a z' e' → (z ≡ z') ×
    (e.1.1.0.now ≡ e'.1.1.0.now)
accumulate-one κs a z z' e e' p p' =
    ((λ i. record { code = (p.0 ∙ sym p'.0) i; count = (p.1.0 ∙ sym p'.1.0) i }), p.1.1 ∙ sym p'.1.1)

pub lookup-one :
    (κs : Lfts 2) (a : ArgsD lookup.signature κs) (z z' : ResD lookup.signature κs)
    (e e' : AtExit (ended_of 2 lookup-kinds.ps lookup-kinds.r) κs)
    → lookup-reads.Post κs a z e → lookup-reads.Post κs a z' e' → z ≡ z'
lookup-one κs a z z' e e' p p' = p ∙ sym p'

pub browse-one :
    (κs : Lfts 1) (a : ArgsD browse.signature κs) (z z' : ResD browse.signature κs)
    (e e' : AtExit (ended_of 1 browse-kinds.ps browse-kinds.r) κs)
    → browse-reads.Post κs a z e → browse-reads.Post κs a z' e' → z ≡ z'
browse-one κs a z z' e e' p p' = p ∙ sym p'

pub rescue-one :
    (κs : Lfts 4) (a : ArgsD rescue.signature κs) (z z' : ResD rescue.signature κs)
    (e e' : AtExit (ended_of 4 rescue-kinds.ps rescue-kinds.r) κs) →
    rescue-reads.Post κs a z e → rescue-reads.Post κs a z' e' → (z ≡ z') × (e.1.0.now ≡ e'.1.0.now)
    × (e.1.1.0.now ≡ e'.1.1.0.now) × (e.1.1.1.0.now ≡ e'.1.1.1.0.now)
rescue-one κs a z z' e e' p p' = (
  p.0 ∙ sym p'.0,
  p.1.0 ∙ sym p'.1.0,
  p.1.1.0 ∙ sym p'.1.1.0,
  p.1.1.1 ∙ sym p'.1.1.1,
)

pub census-one :
    (κs : Lfts 2) (a : ArgsD census.signature κs) (z z' : ResD census.signature κs)
    (e e' : AtExit (ended_of 2 census-kinds.ps census-kinds.r) κs) →
    census-reads.Post κs a z e → census-reads.Post κs a z' e' → (z ≡ z')
    × (e.1.1.0.now ≡ e'.1.1.0.now) × (e.1.1.1.0.now ≡ e'.1.1.1.0.now)
census-one κs a z z' e e' p p' = (p.0 ∙ sym p'.0, p.1.0 ∙ sym p'.1.0, p.1.1 ∙ sym p'.1.1)

-- the answer's two floats too, but for the bits of a not-a-number: of those there is one value (docs/EVIDENCE.md)
pub response-one :
    (κs : Lfts 1) (a : ArgsD response.signature κs) (z z' : ResD response.signature κs)
    (e e' : AtExit (ended_of 1 response-kinds.ps response-kinds.r) κs)
    → response-reads.Post κs a z e → response-reads.Post κs a z' e' → z ≡ z'
response-one κs a z z' e e' p p' = p ∙ sym p'
