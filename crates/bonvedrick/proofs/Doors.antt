-- A door's contract is its request's: what the checker reads off the clauses of each function of the C library is, for
-- the same arguments, answer and buffers, what it reads off those of the request. Of a step the door fixes the sort.
use mathlib.Core.Path.{◌≡◌, refl, sym, ◌∙◌}
use contract.Lifetimes.{Lfts}
use borrow.Fn.Kinds.{ended_of}
use borrow.Fn.World.{ArgsD, ResD}
use denote.Triple.Clauses.{AtExit}
use Rattle.entry_steps.specs.declared.Sort.TheVariants.{Comb, Accumulate}
use Rattle.steps.proofs.Step.apply.Kinds as step-kinds
use Rattle.steps.proofs.Step.apply.Reads as step-request
use Rattle.polynomial.proofs.polynomial.Reads as polynomial-request
use Rattle.partial.proofs.partial.Reads as partial-request
use Rattle.cascade.proofs.cascade.Reads as cascade-request
use Rattle.second.proofs.second.Reads as second-request
use Rattle.shelf.proofs.write.Reads as write-request
use Rattle.shelf.proofs.read.Reads as read-request
use Rattle.half_records.proofs.write_half.Reads as write-half-request
use Rattle.half_records.proofs.read_half.Reads as read-half-request
use Rattle.conversions.proofs.to_half.Reads as to-half-request
use Rattle.conversions.proofs.to_whole.Reads as to-whole-request
use Rattle.shelves.proofs.find.Reads as lookup-request
use Rattle.browsing.proofs.browse.Reads as browse-request
use Rattle.rescuing.proofs.rescue.Reads as rescue-request
use Rattle.response.proofs.response.Reads as response-request
use Rattle.counting.proofs.census.Reads as census-request
use Rattle.bonvedrick.specs.contracts.bv_polynomial as polynomial
use Rattle.bonvedrick.proofs.bv_polynomial.Kinds as polynomial-kinds
use Rattle.bonvedrick.proofs.bv_polynomial.Reads as polynomial-reads
use Rattle.bonvedrick.specs.contracts.bv_partial as partial
use Rattle.bonvedrick.proofs.bv_partial.Kinds as partial-kinds
use Rattle.bonvedrick.proofs.bv_partial.Reads as partial-reads
use Rattle.bonvedrick.specs.contracts.bv_cascade as cascade
use Rattle.bonvedrick.specs.contracts.bv_second as second
use Rattle.bonvedrick.proofs.bv_cascade.Kinds as cascade-kinds
use Rattle.bonvedrick.proofs.bv_second.Kinds as second-kinds
use Rattle.bonvedrick.proofs.bv_cascade.Reads as cascade-reads
use Rattle.bonvedrick.proofs.bv_second.Reads as second_reads
use Rattle.bonvedrick.specs.contracts.bv_write as write
use Rattle.bonvedrick.proofs.bv_write.Kinds as write-kinds
use Rattle.bonvedrick.proofs.bv_write.Reads as write-reads
use Rattle.bonvedrick.specs.contracts.bv_read as read
use Rattle.bonvedrick.proofs.bv_read.Kinds as read-kinds
use Rattle.bonvedrick.proofs.bv_read.Reads as read-reads
use Rattle.bonvedrick.specs.contracts.bv_write_half as write-half
use Rattle.bonvedrick.proofs.bv_write_half.Kinds as write-half-kinds
use Rattle.bonvedrick.proofs.bv_write_half.Reads as write-half-reads
use Rattle.bonvedrick.specs.contracts.bv_read_half as read-half
use Rattle.bonvedrick.proofs.bv_read_half.Kinds as read-half-kinds
use Rattle.bonvedrick.proofs.bv_read_half.Reads as read-half-reads
use Rattle.bonvedrick.specs.contracts.bv_to_half as to-half
use Rattle.bonvedrick.proofs.bv_to_half.Kinds as to-half-kinds
use Rattle.bonvedrick.proofs.bv_to_half.Reads as to-half-reads
use Rattle.bonvedrick.specs.contracts.bv_to_whole as to_whole
use Rattle.bonvedrick.proofs.bv_to_whole.Kinds as to-whole-kinds
use Rattle.bonvedrick.proofs.bv_to_whole.Reads as to-whole-reads
use Rattle.bonvedrick.specs.contracts.bv_lookup as lookup
use Rattle.bonvedrick.proofs.bv_lookup.Kinds as lookup-kinds
use Rattle.bonvedrick.proofs.bv_lookup.Reads as lookup-reads
use Rattle.bonvedrick.specs.contracts.bv_browse as browse
use Rattle.bonvedrick.proofs.bv_browse.Kinds as browse-kinds
use Rattle.bonvedrick.proofs.bv_browse.Reads as browse-reads
use Rattle.bonvedrick.specs.contracts.bv_rescue as rescue
use Rattle.bonvedrick.proofs.bv_rescue.Kinds as rescue-kinds
use Rattle.bonvedrick.proofs.bv_rescue.Reads as rescue-reads
use Rattle.bonvedrick.specs.contracts.bv_response as response
use Rattle.bonvedrick.proofs.bv_response.Kinds as response-kinds
use Rattle.bonvedrick.proofs.bv_response.Reads as response-reads
use Rattle.bonvedrick.specs.contracts.bv_census as census
use Rattle.bonvedrick.proofs.bv_census.Kinds as census-kinds
use Rattle.bonvedrick.proofs.bv_census.Reads as census-reads
use Rattle.bonvedrick.specs.contracts.bv_comb as comb
use Rattle.bonvedrick.proofs.bv_comb.Kinds as comb-kinds
use Rattle.bonvedrick.proofs.bv_comb.Reads as comb-reads
use Rattle.bonvedrick.specs.contracts.bv_accumulate as accumulate
use Rattle.bonvedrick.proofs.bv_accumulate.Kinds as accumulate-kinds
use Rattle.bonvedrick.proofs.bv_accumulate.Reads as accumulate-reads

pub polynomial-door :
    (κs : Lfts 1) (a : ArgsD polynomial.signature κs) (z : ResD polynomial.signature κs)
    (e : AtExit (ended_of 1 polynomial-kinds.ps polynomial-kinds.r) κs)
    → polynomial-reads.Post κs a z e ≡ polynomial-request.Post κs a z e
polynomial-door κs a z e = refl

pub partial-door :
    (κs : Lfts 1) (a : ArgsD partial.signature κs) (z : ResD partial.signature κs)
    (e : AtExit (ended_of 1 partial-kinds.ps partial-kinds.r) κs)
    → partial-reads.Post κs a z e ≡ partial-request.Post κs a z e
partial-door κs a z e = refl

pub cascade-door :
    (κs : Lfts 3) (a : ArgsD cascade.signature κs) (z : ResD cascade.signature κs)
    (e : AtExit (ended_of 3 cascade-kinds.ps cascade-kinds.r) κs)
    → cascade-reads.Post κs a z e ≡ cascade-request.Post κs a z e
cascade-door κs a z e = refl

pub second-door :
    (κs : Lfts 2) (a : ArgsD second.signature κs) (z : ResD second.signature κs)
    (e : AtExit (ended_of 2 second-kinds.ps second-kinds.r) κs)
    → second_reads.Post κs a z e ≡ second-request.Post κs a z e
second-door κs a z e = refl

pub write-door :
    (κs : Lfts 2) (a : ArgsD write.signature κs) (z : ResD write.signature κs)
    (e : AtExit (ended_of 2 write-kinds.ps write-kinds.r) κs)
    → write-reads.Post κs a z e ≡ write-request.Post κs a z e
write-door κs a z e = refl

pub read-door :
    (κs : Lfts 2) (a : ArgsD read.signature κs) (z : ResD read.signature κs)
    (e : AtExit (ended_of 2 read-kinds.ps read-kinds.r) κs)
    → read-reads.Post κs a z e ≡ read-request.Post κs a z e
read-door κs a z e = refl

pub write-half-door :
    (κs : Lfts 2) (a : ArgsD write-half.signature κs) (z : ResD write-half.signature κs)
    (e : AtExit (ended_of 2 write-half-kinds.ps write-half-kinds.r) κs)
    → write-half-reads.Post κs a z e ≡ write-half-request.Post κs a z e
write-half-door κs a z e = refl

pub read-half-door :
    (κs : Lfts 2) (a : ArgsD read-half.signature κs) (z : ResD read-half.signature κs)
    (e : AtExit (ended_of 2 read-half-kinds.ps read-half-kinds.r) κs)
    → read-half-reads.Post κs a z e ≡ read-half-request.Post κs a z e
read-half-door κs a z e = refl

pub to-half-door :
    (κs : Lfts 2) (a : ArgsD to-half.signature κs) (z : ResD to-half.signature κs)
    (e : AtExit (ended_of 2 to-half-kinds.ps to-half-kinds.r) κs)
    → to-half-reads.Post κs a z e ≡ to-half-request.Post κs a z e
to-half-door κs a z e = refl

pub to-whole-door :
    (κs : Lfts 2) (a : ArgsD to_whole.signature κs) (z : ResD to_whole.signature κs)
    (e : AtExit (ended_of 2 to-whole-kinds.ps to-whole-kinds.r) κs)
    → to-whole-reads.Post κs a z e ≡ to-whole-request.Post κs a z e
to-whole-door κs a z e = refl

pub lookup-door :
    (κs : Lfts 2) (a : ArgsD lookup.signature κs) (z : ResD lookup.signature κs)
    (e : AtExit (ended_of 2 lookup-kinds.ps lookup-kinds.r) κs)
    → lookup-reads.Post κs a z e ≡ lookup-request.Post κs a z e
lookup-door κs a z e = refl

pub browse-door :
    (κs : Lfts 1) (a : ArgsD browse.signature κs) (z : ResD browse.signature κs)
    (e : AtExit (ended_of 1 browse-kinds.ps browse-kinds.r) κs)
    → browse-reads.Post κs a z e ≡ browse-request.Post κs a z e
browse-door κs a z e = refl

pub rescue-door :
    (κs : Lfts 4) (a : ArgsD rescue.signature κs) (z : ResD rescue.signature κs)
    (e : AtExit (ended_of 4 rescue-kinds.ps rescue-kinds.r) κs)
    → rescue-reads.Post κs a z e ≡ rescue-request.Post κs a z e
rescue-door κs a z e = refl

pub response-door :
    (κs : Lfts 1) (a : ArgsD response.signature κs) (z : ResD response.signature κs)
    (e : AtExit (ended_of 1 response-kinds.ps response-kinds.r) κs)
    → response-reads.Post κs a z e ≡ response-request.Post κs a z e
response-door κs a z e = refl

pub census-door :
    (κs : Lfts 2) (a : ArgsD census.signature κs) (z : ResD census.signature κs)
    (e : AtExit (ended_of 2 census-kinds.ps census-kinds.r) κs)
    → census-reads.Post κs a z e ≡ census-request.Post κs a z e
census-door κs a z e = refl

-- the slice that a step's door leaves, e, and the one that the step leaves, f, hold the same
pub comb-door :
    (κs : Lfts 1) (a : ArgsD comb.signature κs) (z : ResD comb.signature κs)
    (e : AtExit (ended_of 1 comb-kinds.ps comb-kinds.r) κs) (f : AtExit (ended_of 1 step-kinds.ps step-kinds.r) κs)
    → e.1.1.0.now ≡ f.1.1.0.now
    → (comb-reads.Post κs a z e → step-request.Post κs (record { sort = Comb; size = a.0 }, a.1) z f)
    × (step-request.Post κs (record { sort = Comb; size = a.0 }, a.1) z f → comb-reads.Post κs a z e)
comb-door κs a z e f same =
    (λ p. (p.0, (p.1.0, sym same ∙ p.1.1)), λ p. (p.0, (p.1.0, same ∙ p.1.1)))

pub accumulate-door :
    (κs : Lfts 1) (a : ArgsD accumulate.signature κs) (z : ResD accumulate.signature κs)
    (e : AtExit (ended_of 1 accumulate-kinds.ps accumulate-kinds.r) κs)
    (f : AtExit (ended_of 1 step-kinds.ps step-kinds.r) κs)
    → e.1.1.0.now ≡ f.1.1.0.now
    → (accumulate-reads.Post κs a z e → step-request.Post κs (record { sort = Accumulate; size = a.0 }, a.1) z f)
    × (step-request.Post κs (record { sort = Accumulate; size = a.0 }, a.1) z f → accumulate-reads.Post κs a z e)
accumulate-door κs a z e f same =
    (λ p. (p.0, (p.1.0, sym same ∙ p.1.1)), λ p. (p.0, (p.1.0, same ∙ p.1.1)))
