-- For each input the contract of a public function leaves one outcome: two that meet it, as the checker reads it off
-- the clauses, have the same answer; a part of a shelf that is handed back holds the same and lies at the same place.
use mathlib.Core.Path.{◌≡◌, sym, ◌∙◌}
use contract.Lifetimes.{Lfts}
use borrow.Fn.Kinds.{ended_of}
use borrow.Fn.World.{ArgsD, ResD}
use denote.Triple.Clauses.{AtExit}
use Rattle.shelves.specs.contracts.walk as walk
use Rattle.shelves.proofs.walk.Kinds as walk-kinds
use Rattle.shelves.proofs.walk.Reads as walk-reads
use Rattle.shelves.specs.contracts.find as find
use Rattle.shelves.proofs.find.Kinds as find-kinds
use Rattle.shelves.proofs.find.Reads as find-reads
use Rattle.shelves.specs.contracts.held as held
use Rattle.shelves.proofs.held.Kinds as held-kinds
use Rattle.shelves.proofs.held.Reads as held_reads
use Rattle.shelves.specs.contracts.lookup as lookup
use Rattle.shelves.proofs.lookup.Kinds as lookup-kinds
use Rattle.shelves.proofs.lookup.Reads as lookup-reads

pub walk-one :
    (κs : Lfts 1) (a : ArgsD walk.signature κs) (z z' : ResD walk.signature κs)
    (e e' : AtExit (ended_of 1 walk-kinds.ps walk-kinds.r) κs)
    → walk-reads.Post κs a z e → walk-reads.Post κs a z' e' → z ≡ z'
walk-one κs a z z' e e' p p' = p ∙ sym p'

pub find-one :
    (κs : Lfts 2) (a : ArgsD find.signature κs) (z z' : ResD find.signature κs)
    (e e' : AtExit (ended_of 2 find-kinds.ps find-kinds.r) κs)
    → find-reads.Post κs a z e → find-reads.Post κs a z' e' → z ≡ z'
find-one κs a z z' e e' p p' = p ∙ sym p'

pub held_one :
    (κs : Lfts 1) (a : ArgsD held.signature κs) (z z' : ResD held.signature κs)
    (e e' : AtExit (ended_of 1 held-kinds.ps held-kinds.r) κs)
    → held_reads.Post κs a z e → held_reads.Post κs a z' e' → (z.now ≡ z'.now) × (z.ref_ptr ≡ z'.ref_ptr)
held_one κs a z z' e e' p p' = (p.0 ∙ sym p'.0, p.1 ∙ sym p'.1)

pub lookup-one :
    (κs : Lfts 1) (a : ArgsD lookup.signature κs) (z z' : ResD lookup.signature κs)
    (e e' : AtExit (ended_of 1 lookup-kinds.ps lookup-kinds.r) κs)
    → lookup-reads.Post κs a z e → lookup-reads.Post κs a z' e' → (z.now ≡ z'.now) × (z.ref_ptr ≡ z'.ref_ptr)
lookup-one κs a z z' e e' p p' = (p.0 ∙ sym p'.0, p.1 ∙ sym p'.1)
