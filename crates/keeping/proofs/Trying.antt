-- Trying the record that some bytes start with: how it comes out, by the tests that led there; and read backwards, what
-- each outcome says. What is kept reads well and has the coefficients of its kind and index (`keepable_reads`).
use Prim.Native.Nat.{ℕ, ◌≤◌, ◌<◌}
use mathlib.Core.Path.{◌≡◌, refl, sym, ap, ◌∙◌}
use mathlib.Core.Bool.{Bool, true, false, cond, not, ◌&&◌, not-not}
use mathlib.Core.List.{List}
use borrow.Author.Tests.{eq-eqb, ne_eqb, eqb-true, lt-ltb, le-ltb}
use lib.ListN.{get_or}
use lib.Dec.{eqb}
use Rattle.definitions.specs.Codes.{DONE}
use Rattle.record.specs.Header.{count_in, marked}
use Rattle.record.proofs.HeaderTrips.{and_both}
use Rattle.shelf.specs.Format.{look_code}
use Rattle.std.specs.Prelude.{Result, Ok, Err}
use Rattle.keeping.specs.declared.Cramped.{Cramped}
use Rattle.keeping.specs.Keepable.{another, keepable, cramped}
use Rattle.keeping.specs.Trying.{too_little, tried_of}
use Rattle.keeping.proofs.Comparing.{header}

-- what is kept reads, and is not another; and the other way round
pub keepable_reads : (bs : List ℕ) → keepable bs ≡ true → (look_code bs ≡ DONE) × (another bs ≡ false)
unfolding keepable
keepable_reads bs e =
    let p = and_both (eqb (look_code bs) DONE) (not (another bs)) e in
    (eqb-true (look_code bs) DONE p.0, sym (not-not (another bs)) ∙ ap not p.1)

pub reads_keepable : (bs : List ℕ) → look_code bs ≡ DONE → another bs ≡ false → keepable bs ≡ true
unfolding keepable
reads_keepable bs good same = rw (eq-eqb (look_code bs) DONE good, same) refl

module _ (room : ℕ) (bs : List ℕ) where
  pub tried_unread : (look_code bs ≡ DONE → ⊥) → Ok false ≡ tried_of room bs
  unfolding tried_of cramped keepable
  tried_unread u = rw (ne_eqb (look_code bs) DONE u) refl

  -- no record starts with another byte
  pub tried_unmarked : (get_or bs 0 0 ≡ 0xC9 → ⊥) → Ok false ≡ tried_of room bs
  unfolding marked
  tried_unmarked u = tried_unread (λ good. u (first (get_or bs 0 0) _ (header bs good).is_marked))
    where
      first : (b : ℕ) (t : Bool) → (eqb b 0xC9 && t) ≡ true → b ≡ 0xC9
      first b t e = eqb-true b 0xC9 (and_both (eqb b 0xC9) t e).0

  module _ (good : look_code bs ≡ DONE) where
    pub tried_cramped : room < count_in bs → Err too_little ≡ tried_of room bs
    unfolding tried_of cramped
    tried_cramped l = rw (eq-eqb (look_code bs) DONE good, lt-ltb room (count_in bs) l) refl

    pub tried_whole : (r : Bool) → count_in bs ≤ room → r ≡ not (another bs) → Ok r ≡ tried_of room bs
    unfolding tried_of cramped keepable
    tried_whole r l e = rw (eq-eqb (look_code bs) DONE good, le-ltb room (count_in bs) l, ← e) refl

  -- backwards
  abbrev Said : Result Bool Cramped → Type 0
  Said (Ok kept) = (cramped room bs ≡ false) × (keepable bs ≡ kept)
  Said (Err e) = cramped room bs ≡ true

  pub said : (t : Result Bool Cramped) → t ≡ tried_of room bs → Said t
  unfolding tried_of
  said t e = rw e (go (cramped room bs) refl)
    where
      go : (a : Bool) → cramped room bs ≡ a → Said (cond a (Err too_little) (Ok (keepable bs)))
      go true ea = ea
      go false ea = (ea, refl)
