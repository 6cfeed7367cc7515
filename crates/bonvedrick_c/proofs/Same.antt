-- What C calls has the contract of the library's function under the same name: what the checker reads off the clauses of
-- each export is, for the same arguments, answer and buffers, what it reads off those of that function. So the theorems
-- of the crate bonvedrick hold of the exports too.
use mathlib.Core.Path.{◌≡◌, refl}
use contract.Lifetimes.{Lfts}
use borrow.Fn.Kinds.{ended_of}
use borrow.Fn.World.{ArgsD, ResD}
use denote.Triple.Clauses.{AtExit}
use Rattle.bonvedrick.proofs.bv_polynomial.Reads as polynomial-library
use Rattle.bonvedrick_c.specs.contracts.bv_polynomial as polynomial
use Rattle.bonvedrick_c.proofs.bv_polynomial.Kinds as polynomial-kinds
use Rattle.bonvedrick_c.proofs.bv_polynomial.Reads as polynomial-reads
use Rattle.bonvedrick.proofs.bv_partial.Reads as partial-library
use Rattle.bonvedrick_c.specs.contracts.bv_partial as partial
use Rattle.bonvedrick_c.proofs.bv_partial.Kinds as partial-kinds
use Rattle.bonvedrick_c.proofs.bv_partial.Reads as partial-reads
use Rattle.bonvedrick.proofs.bv_cascade.Reads as cascade-library
use Rattle.bonvedrick_c.specs.contracts.bv_cascade as cascade
use Rattle.bonvedrick_c.proofs.bv_cascade.Kinds as cascade-kinds
use Rattle.bonvedrick_c.proofs.bv_cascade.Reads as cascade-reads
use Rattle.bonvedrick.proofs.bv_second.Reads as second-library
use Rattle.bonvedrick_c.specs.contracts.bv_second as second
use Rattle.bonvedrick_c.proofs.bv_second.Kinds as second-kinds
use Rattle.bonvedrick_c.proofs.bv_second.Reads as second-reads
use Rattle.bonvedrick.proofs.bv_write.Reads as write-library
use Rattle.bonvedrick_c.specs.contracts.bv_write as write
use Rattle.bonvedrick_c.proofs.bv_write.Kinds as write-kinds
use Rattle.bonvedrick_c.proofs.bv_write.Reads as write-reads
use Rattle.bonvedrick.proofs.bv_read.Reads as read-library
use Rattle.bonvedrick_c.specs.contracts.bv_read as read
use Rattle.bonvedrick_c.proofs.bv_read.Kinds as read-kinds
use Rattle.bonvedrick_c.proofs.bv_read.Reads as read-reads
use Rattle.bonvedrick.proofs.bv_write_half.Reads as write-half-library
use Rattle.bonvedrick_c.specs.contracts.bv_write_half as write-half
use Rattle.bonvedrick_c.proofs.bv_write_half.Kinds as write-half-kinds
use Rattle.bonvedrick_c.proofs.bv_write_half.Reads as write-half-reads
use Rattle.bonvedrick.proofs.bv_read_half.Reads as read-half-library
use Rattle.bonvedrick_c.specs.contracts.bv_read_half as read-half
use Rattle.bonvedrick_c.proofs.bv_read_half.Kinds as read-half-kinds
use Rattle.bonvedrick_c.proofs.bv_read_half.Reads as read-half-reads
use Rattle.bonvedrick.proofs.bv_to_half.Reads as to-half-library
use Rattle.bonvedrick_c.specs.contracts.bv_to_half as to-half
use Rattle.bonvedrick_c.proofs.bv_to_half.Kinds as to-half-kinds
use Rattle.bonvedrick_c.proofs.bv_to_half.Reads as to-half-reads
use Rattle.bonvedrick.proofs.bv_to_whole.Reads as to-whole-library
use Rattle.bonvedrick_c.specs.contracts.bv_to_whole as to-whole
use Rattle.bonvedrick_c.proofs.bv_to_whole.Kinds as to-whole-kinds
use Rattle.bonvedrick_c.proofs.bv_to_whole.Reads as to-whole-reads
use Rattle.bonvedrick.proofs.bv_lookup.Reads as lookup-library
use Rattle.bonvedrick_c.specs.contracts.bv_lookup as lookup
use Rattle.bonvedrick_c.proofs.bv_lookup.Kinds as lookup-kinds
use Rattle.bonvedrick_c.proofs.bv_lookup.Reads as lookup-reads
use Rattle.bonvedrick.proofs.bv_browse.Reads as browse-library
use Rattle.bonvedrick_c.specs.contracts.bv_browse as browse
use Rattle.bonvedrick_c.proofs.bv_browse.Kinds as browse-kinds
use Rattle.bonvedrick_c.proofs.bv_browse.Reads as browse-reads
use Rattle.bonvedrick.proofs.bv_rescue.Reads as rescue-library
use Rattle.bonvedrick_c.specs.contracts.bv_rescue as rescue
use Rattle.bonvedrick_c.proofs.bv_rescue.Kinds as rescue-kinds
use Rattle.bonvedrick_c.proofs.bv_rescue.Reads as rescue-reads
use Rattle.bonvedrick.proofs.bv_response.Reads as response-library
use Rattle.bonvedrick_c.specs.contracts.bv_response as response
use Rattle.bonvedrick_c.proofs.bv_response.Kinds as response-kinds
use Rattle.bonvedrick_c.proofs.bv_response.Reads as response-reads
use Rattle.bonvedrick.proofs.bv_census.Reads as census-library
use Rattle.bonvedrick_c.specs.contracts.bv_census as census
use Rattle.bonvedrick_c.proofs.bv_census.Kinds as census-kinds
use Rattle.bonvedrick_c.proofs.bv_census.Reads as census-reads
use Rattle.bonvedrick.proofs.bv_comb.Reads as comb-library
use Rattle.bonvedrick_c.specs.contracts.bv_comb as comb
use Rattle.bonvedrick_c.proofs.bv_comb.Kinds as comb-kinds
use Rattle.bonvedrick_c.proofs.bv_comb.Reads as comb-reads
use Rattle.bonvedrick.proofs.bv_accumulate.Reads as accumulate-library
use Rattle.bonvedrick_c.specs.contracts.bv_accumulate as accumulate
use Rattle.bonvedrick_c.proofs.bv_accumulate.Kinds as accumulate-kinds
use Rattle.bonvedrick_c.proofs.bv_accumulate.Reads as accumulate-reads

pub polynomial-same :
    (κs : Lfts 1) (a : ArgsD polynomial.signature κs) (z : ResD polynomial.signature κs)
    (e : AtExit (ended_of 1 polynomial-kinds.ps polynomial-kinds.r) κs)
    → polynomial-reads.Post κs a z e ≡ polynomial-library.Post κs a z e
polynomial-same κs a z e = refl

pub partial-same :
    (κs : Lfts 1) (a : ArgsD partial.signature κs) (z : ResD partial.signature κs)
    (e : AtExit (ended_of 1 partial-kinds.ps partial-kinds.r) κs)
    → partial-reads.Post κs a z e ≡ partial-library.Post κs a z e
partial-same κs a z e = refl

pub cascade-same :
    (κs : Lfts 3) (a : ArgsD cascade.signature κs) (z : ResD cascade.signature κs)
    (e : AtExit (ended_of 3 cascade-kinds.ps cascade-kinds.r) κs)
    → cascade-reads.Post κs a z e ≡ cascade-library.Post κs a z e
cascade-same κs a z e = refl

pub second-same :
    (κs : Lfts 2) (a : ArgsD second.signature κs) (z : ResD second.signature κs)
    (e : AtExit (ended_of 2 second-kinds.ps second-kinds.r) κs)
    → second-reads.Post κs a z e ≡ second-library.Post κs a z e
second-same κs a z e = refl

pub write-same :
    (κs : Lfts 2) (a : ArgsD write.signature κs) (z : ResD write.signature κs)
    (e : AtExit (ended_of 2 write-kinds.ps write-kinds.r) κs)
    → write-reads.Post κs a z e ≡ write-library.Post κs a z e
write-same κs a z e = refl

pub read-same :
    (κs : Lfts 2) (a : ArgsD read.signature κs) (z : ResD read.signature κs)
    (e : AtExit (ended_of 2 read-kinds.ps read-kinds.r) κs)
    → read-reads.Post κs a z e ≡ read-library.Post κs a z e
read-same κs a z e = refl

pub write-half-same :
    (κs : Lfts 2) (a : ArgsD write-half.signature κs) (z : ResD write-half.signature κs)
    (e : AtExit (ended_of 2 write-half-kinds.ps write-half-kinds.r) κs)
    → write-half-reads.Post κs a z e ≡ write-half-library.Post κs a z e
write-half-same κs a z e = refl

pub read-half-same :
    (κs : Lfts 2) (a : ArgsD read-half.signature κs) (z : ResD read-half.signature κs)
    (e : AtExit (ended_of 2 read-half-kinds.ps read-half-kinds.r) κs)
    → read-half-reads.Post κs a z e ≡ read-half-library.Post κs a z e
read-half-same κs a z e = refl

pub to-half-same :
    (κs : Lfts 2) (a : ArgsD to-half.signature κs) (z : ResD to-half.signature κs)
    (e : AtExit (ended_of 2 to-half-kinds.ps to-half-kinds.r) κs)
    → to-half-reads.Post κs a z e ≡ to-half-library.Post κs a z e
to-half-same κs a z e = refl

pub to-whole-same :
    (κs : Lfts 2) (a : ArgsD to-whole.signature κs) (z : ResD to-whole.signature κs)
    (e : AtExit (ended_of 2 to-whole-kinds.ps to-whole-kinds.r) κs)
    → to-whole-reads.Post κs a z e ≡ to-whole-library.Post κs a z e
to-whole-same κs a z e = refl

pub lookup-same :
    (κs : Lfts 2) (a : ArgsD lookup.signature κs) (z : ResD lookup.signature κs)
    (e : AtExit (ended_of 2 lookup-kinds.ps lookup-kinds.r) κs)
    → lookup-reads.Post κs a z e ≡ lookup-library.Post κs a z e
lookup-same κs a z e = refl

pub browse-same :
    (κs : Lfts 1) (a : ArgsD browse.signature κs) (z : ResD browse.signature κs)
    (e : AtExit (ended_of 1 browse-kinds.ps browse-kinds.r) κs)
    → browse-reads.Post κs a z e ≡ browse-library.Post κs a z e
browse-same κs a z e = refl

pub rescue-same :
    (κs : Lfts 4) (a : ArgsD rescue.signature κs) (z : ResD rescue.signature κs)
    (e : AtExit (ended_of 4 rescue-kinds.ps rescue-kinds.r) κs)
    → rescue-reads.Post κs a z e ≡ rescue-library.Post κs a z e
rescue-same κs a z e = refl

pub response-same :
    (κs : Lfts 1) (a : ArgsD response.signature κs) (z : ResD response.signature κs)
    (e : AtExit (ended_of 1 response-kinds.ps response-kinds.r) κs)
    → response-reads.Post κs a z e ≡ response-library.Post κs a z e
response-same κs a z e = refl

pub census-same :
    (κs : Lfts 2) (a : ArgsD census.signature κs) (z : ResD census.signature κs)
    (e : AtExit (ended_of 2 census-kinds.ps census-kinds.r) κs)
    → census-reads.Post κs a z e ≡ census-library.Post κs a z e
census-same κs a z e = refl

pub comb-same :
    (κs : Lfts 1) (a : ArgsD comb.signature κs) (z : ResD comb.signature κs)
    (e : AtExit (ended_of 1 comb-kinds.ps comb-kinds.r) κs)
    → comb-reads.Post κs a z e ≡ comb-library.Post κs a z e
comb-same κs a z e = refl

pub accumulate-same :
    (κs : Lfts 1) (a : ArgsD accumulate.signature κs) (z : ResD accumulate.signature κs)
    (e : AtExit (ended_of 1 accumulate-kinds.ps accumulate-kinds.r) κs)
    → accumulate-reads.Post κs a z e ≡ accumulate-library.Post κs a z e
accumulate-same κs a z e = refl
