-- For each input the contract of a public function leaves one outcome: two that meet it, as the checker reads it off
-- the clauses, have the same answer; a part of a shelf that is handed back holds the same and lies at the same place.
use mathlib.Core.Path.{◌≡◌, sym, ◌∙◌}
use contract.Lifetimes.{Lfts}
use borrow.Fn.Kinds.{ended_of}
use borrow.Fn.World.{ArgsD, ResD}
use denote.Triple.Clauses.{AtExit}
use denote.Ref.{Bor}
use Prim.Native.Nat.{ℕ}
use mathlib.Core.List.{List}
use Rattle.browsing.specs.declared.Shown.{Shown}
use Rattle.browsing.specs.declared.reader.Reader.{Reader}
use Rattle.browsing.specs.Browse.{start_of, length_of, part_of, lies}
use Rattle.browsing.specs.Reading.{opened, turn_of, moved}
use Rattle.browsing.specs.contracts.shown_at as shown-at
use Rattle.browsing.proofs.shown_at.Kinds as shown-at-kinds
use Rattle.browsing.proofs.shown_at.Reads as shown-at-reads
use Rattle.browsing.specs.contracts.turn_at as turn_at
use Rattle.browsing.proofs.turn_at.Kinds as turn-at-kinds
use Rattle.browsing.proofs.turn_at.Reads as turn-at-reads
use Rattle.browsing.specs.contracts.browse as browse
use Rattle.browsing.proofs.browse.Kinds as browse-kinds
use Rattle.browsing.proofs.browse.Reads as browse-reads
use Rattle.browsing.specs.contracts.between as between
use Rattle.browsing.proofs.between.Kinds as between-kinds
use Rattle.browsing.proofs.between.Reads as between-reads
use Rattle.browsing.specs.contracts.part as part
use Rattle.browsing.proofs.part.Kinds as part-kinds
use Rattle.browsing.proofs.part.Reads as part-reads
use Rattle.browsing.specs.contracts.stretch_of as stretch-of
use Rattle.browsing.proofs.stretch_of.Kinds as stretch-of-kinds
use Rattle.browsing.proofs.stretch_of.Reads as stretch-of-reads

pub shown-at-one :
    (κs : Lfts 1) (a : ArgsD shown-at.signature κs) (z z' : ResD shown-at.signature κs)
    (e e' : AtExit (ended_of 1 shown-at-kinds.ps shown-at-kinds.r) κs)
    → shown-at-reads.Post κs a z e → shown-at-reads.Post κs a z' e' → z ≡ z'
shown-at-one κs a z z' e e' p p' = p ∙ sym p'

pub turn-at-one :
    (κs : Lfts 1) (a : ArgsD turn_at.signature κs) (z z' : ResD turn_at.signature κs)
    (e e' : AtExit (ended_of 1 turn-at-kinds.ps turn-at-kinds.r) κs)
    → turn-at-reads.Post κs a z e → turn-at-reads.Post κs a z' e' → z ≡ z'
turn-at-one κs a z z' e e' p p' = p ∙ sym p'

pub browse-one :
    (κs : Lfts 1) (a : ArgsD browse.signature κs) (z z' : ResD browse.signature κs)
    (e e' : AtExit (ended_of 1 browse-kinds.ps browse-kinds.r) κs)
    → browse-reads.Post κs a z e → browse-reads.Post κs a z' e' → z ≡ z'
browse-one κs a z z' e e' p p' = p ∙ sym p'

pub between-one :
    (κs : Lfts 0) (a : ArgsD between.signature κs) (z z' : ResD between.signature κs)
    (e e' : AtExit (ended_of 0 between-kinds.ps between-kinds.r) κs)
    → between-reads.Post κs a z e → between-reads.Post κs a z' e' → z ≡ z'
between-one κs a z z' e e' p p' = p ∙ sym p'

pub part-one :
    (κs : Lfts 1) (a : ArgsD part.signature κs) (z z' : ResD part.signature κs)
    (e e' : AtExit (ended_of 1 part-kinds.ps part-kinds.r) κs)
    → part-reads.Post κs a z e → part-reads.Post κs a z' e' → (z.now ≡ z'.now) × (z.ref_ptr ≡ z'.ref_ptr)
part-one κs a z z' e e' p p' = (p.0 ∙ sym p'.0, p.1 ∙ sym p'.1)

pub stretch-of-one :
    (κs : Lfts 1) (a : ArgsD stretch-of.signature κs) (z z' : ResD stretch-of.signature κs)
    (e e' : AtExit (ended_of 1 stretch-of-kinds.ps stretch-of-kinds.r) κs)
    → stretch-of-reads.Post κs a z e → stretch-of-reads.Post κs a z' e' → (z.now ≡ z'.now) × (z.ref_ptr ≡ z'.ref_ptr)
stretch-of-one κs a z z' e e' p p' = (p.0 ∙ sym p'.0, p.1 ∙ sym p'.1)

-- The clauses of the functions over a reader are said here again, over plain values.
pub open_one : (shelf : Bor (List ℕ)) (z z' : Reader) → z ≡ opened shelf → z' ≡ opened shelf → z ≡ z'
open_one shelf z z' p p' = p ∙ sym p'

pub next_one : (entry exit exit' : Reader) (z z' : Shown) → (z ≡ (turn_of entry).shown) × (exit ≡ moved entry)
    → (z' ≡ (turn_of entry).shown) × (exit' ≡ moved entry) → (z ≡ z') × (exit ≡ exit')
next_one entry exit exit' z z' p p' = (p.0 ∙ sym p'.0, p.1 ∙ sym p'.1)

abbrev Stretched : Reader → Shown → Bor (List ℕ) → Type 0
Stretched reader shown z = (z.now ≡ part_of reader.shelf (start_of shown) (length_of shown))
    × (z.ref_ptr ≡ lies reader.shelf (start_of shown))

pub stretch-one : (reader : Reader) (shown : Shown) (z z' : Bor (List ℕ)) → Stretched reader shown z
    → Stretched reader shown z' → (z.now ≡ z'.now) × (z.ref_ptr ≡ z'.ref_ptr)
stretch-one reader shown z z' p p' = (p.0 ∙ sym p'.0, p.1 ∙ sym p'.1)
