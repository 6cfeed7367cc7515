-- The code of a rescue: SHORT where one of the three rooms is too small, and backwards what each code says; and what is
-- answered and left with it (`refused`, `delivered`).
use Prim.Native.Nat.{ℕ, ◌/◌, ◌≤◌}
use mathlib.Core.Path.{◌≡◌, refl, sym, ap, ◌∙◌}
use mathlib.Core.Bool.{Bool, true, false, cond, not, ◌||◌, true≢false, not-not}
use mathlib.Core.List.{List}
use native.Mathlib.Omega.{arith}
use native.Mathlib.Nat.{zero-add}
use borrow.Author.Tests.{eqb-true, ltb-false}
use lib.ListN.{length}
use lib.Seq.{sets, sets-eq}
use lib.Dec.{eqb, ltb}
use Rattle.definitions.specs.Codes.{DONE, SHORT}
use Rattle.step_laws.specs.Tests.{neither}
use Rattle.rescuing.specs.declared.Rescued.{Rescued}
use Rattle.rescuing.specs.Rescue.{searches, cramped_by, kept, listed, rescue_code, rescue_tells, rescue_answer}
use Rattle.rescuing.specs.Rescue.{rescue_leaves, rescue_lists}

module _ (shelf : List ℕ) (room slots entries : ℕ) where
  abbrev pub short : Bool
  short = cramped_by entries (searches shelf) || ltb room (length (kept shelf)) || ltb slots (length (listed shelf))

  pub code_is : rescue_code shelf room slots entries ≡ cond short SHORT DONE
  unfolding rescue_code
  code_is = refl

  -- as `is_short` answers
  pub is_short : short ≡ not (eqb (rescue_code shelf room slots entries) DONE)
  is_short = go short code_is
    where
      go : (b : Bool) → rescue_code shelf room slots entries ≡ cond b SHORT DONE
          → b ≡ not (eqb (rescue_code shelf room slots entries) DONE)
      go true e = rw e refl
      go false e = rw e refl

  -- by its tests, one after the other
  pub by_tests : (a b c : Bool) → a ≡ cramped_by entries (searches shelf) → b ≡ ltb room (length (kept shelf))
      → c ≡ ltb slots (length (listed shelf)) → (a || b || c) ≡ not (eqb (rescue_code shelf room slots entries) DONE)
  by_tests a b c ea eb ec = rw (ea, eb, ec) is_short

  -- where it is not SHORT there is room for all
  pub record Fits : Type 0 where
    pub free : cramped_by entries (searches shelf) ≡ false
    pub bytes : length (kept shelf) ≤ room
    pub numbers : length (listed shelf) ≤ slots

  not-short_fits : short ≡ false → Fits
  not-short_fits e =
      let p = neither _ _ e in
      let q = neither _ _ p.0 in
      record { free = q.0; bytes = ltb-false room _ q.1; numbers = ltb-false slots _ p.1 }

  pub fits : rescue_code shelf room slots entries ≡ DONE → Fits
  fits e = go short refl
    where
      go : (b : Bool) → short ≡ b → Fits
      go true eb = absurd (omega (arith, sym (ap (λ b. cond b SHORT DONE) eb) ∙ sym code_is ∙ e))
      go false eb = not-short_fits eb

-- what is answered and left, by the code
module _ (shelf out list : List ℕ) (entries : ℕ) where
  abbrev pub Answered : Rescued → List ℕ → List ℕ → Type 0
  Answered r out' list' =
      (r ≡ rescue_answer shelf (length out) (length list) entries)
      × (out' ≡ rescue_leaves shelf out (length list) entries)
      × (list' ≡ rescue_lists shelf (length out) list entries)

  pub refused : true ≡ not (eqb (rescue_code shelf (length out) (length list) entries) DONE)
      → Answered (record { code = SHORT; kept = 0; stretches = 0 }) out list
  unfolding rescue_answer rescue_tells rescue_leaves rescue_lists
  refused e =
      go (short shelf (length out) (length list) entries) (e ∙ sym (is_short shelf (length out) (length list) entries))
      (code_is shelf (length out) (length list) entries)
    where
      go : (b : Bool) → true ≡ b → rescue_code shelf (length out) (length list) entries ≡ cond b SHORT DONE
          → Answered (record { code = SHORT; kept = 0; stretches = 0 }) out list
      go true t c = rw c (refl, refl, refl)
      go false t c = absurd (true≢false t)

  pub done_code : false ≡ not (eqb (rescue_code shelf (length out) (length list) entries) DONE)
      → rescue_code shelf (length out) (length list) entries ≡ DONE
  done_code e =
      eqb-true _ _ (sym (not-not (eqb (rescue_code shelf (length out) (length list) entries) DONE)) ∙ ap not
      (sym e))

  pub delivered : (done : rescue_code shelf (length out) (length list) entries ≡ DONE) (k s : ℕ) (out' list' : List ℕ)
      → k ≡ length (kept shelf) → s ≡ length (listed shelf) → out' ≡ sets out 0 (kept shelf)
      → list' ≡ sets list 0 (listed shelf) → Answered (record { code = DONE; kept = k; stretches = s / 2 }) out' list'
  unfolding rescue_answer rescue_tells rescue_leaves rescue_lists
  delivered done k s out' list' ek es eo el =
      let f = fits shelf (length out) (length list) entries done in
      rw done (
        rw (ek, es) refl,
        eo ∙ sets-eq (kept shelf) out 0 (rw zero-add f.bytes) ∙ rw zero-add refl,
        el ∙ sets-eq (listed shelf) list 0 (rw zero-add f.numbers) ∙ rw zero-add refl,
      )
