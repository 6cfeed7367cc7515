-- The cascade request's outcomes: which code each test leads to, and what is then told and left.
use Prim.Native.Nat.{ℕ, suc, ◌+◌, ◌<◌, ◌≤◌}
use mathlib.Core.Path.{◌≡◌, refl, sym, ◌∙◌, ap, ap₂}
use mathlib.Core.Bool.{Bool, true, false, cond, ◌||◌, or-true}
use mathlib.Core.List.{List, ◌++◌}
use native.Mathlib.Nat as NatL
use native.Mathlib.Numerals.{add-one}
use borrow.Author.Tests.{le-ltb, lt-ltb, le-leb, lt-leb, eqb-false}
use lib.Dec.{eqb, ltb, leb}
use lib.IntN.{ℤ, pos}
use lib.ListN.{length, drop, length-replicate}
use Rattle.definitions.specs.Integers.{0ℤ}
use Rattle.definitions.specs.Codes.{DONE, INDEX, LIMIT, SHORT, OVER, TALL, LIST}
use Rattle.definitions.specs.Steps.{below_one}
use Rattle.definitions.specs.Requests.{written, zeros}
use Rattle.definitions.specs.Answer.{height_of}
use Rattle.definitions.specs.Cascades.{product, total_degree, product_coefficients, longest, all_good, cascade_over}
use Rattle.step_laws.specs.Tests.{neither}
use Rattle.step_laws.specs.Firsts.{length-firsts}
use Rattle.answers.specs.Cascade.{code, answered, answer, left, leaves, scratched, scratches}
use Rattle.answers.specs.declared.Answer.{Answer}
use Rattle.answers.proofs.Told.{told-only, same_done}
use Rattle.std.specs.Prelude.{Result, Ok, is_err, IsErr}
use Rattle.exact_products.specs.declared.Over.{Over}
use Rattle.next_factor.specs.declared.SoFar.{SoFar}
use Rattle.cascade.specs.Making.{Ready, ProductOf, ProductIs, making_code, laid}
use Rattle.cascade.proofs.Lists.{over_by_firsts}

-- ---- after the making
-- what the making comes to: its answer, what stands in the product's entries and in the scratch
abbrev pub Made : List ℕ → ℕ → Answer → List ℤ → List ℤ → List ℤ → Type 0
Made ns h a b s s₀ = (a ≡ answered ns (making_code ns h)) × ((b ≡ laid ns (making_code ns h)) × (s ≡ zeros (length s₀)))

module _ {ns : List ℕ} {m : List ℤ} {r : Result SoFar Over} (good : all_good ns ≡ true) (P : ProductIs ns m r) (h : ℕ) {total : ℕ}
    (is : total ≡ total_degree ns) (s s₁ s₀ : List ℤ) (cleared : s ≡ zeros (length s₁)) (len : length s₁ ≡ length s₀)
  where
    over_is : cascade_over ns ≡ is_err r
    over_is = over_by_firsts ns good ∙ sym P.over

    by_code : (c : ℕ) {a : Answer} {b : List ℤ} → making_code ns h ≡ c → a ≡ answered ns c → b ≡ laid ns c
        → Made ns h a b s s₀
    by_code c e p q = (p ∙ ap (answered ns) (sym e), (q ∙ ap (laid ns) (sym e), cleared ∙ ap zeros len))

    refuses : (c : ℕ) {a : Answer} {b : List ℤ} → making_code ns h ≡ c → answered ns c ≡ told-only c (total_degree ns)
        → laid ns c ≡ zeros (suc (total_degree ns)) → a ≡ told-only c total → b ≡ zeros (length m) → Made ns h a b s s₀
    refuses c e p q a b =
        by_code c e (a ∙ ap (told-only c) is ∙ sym p) (b ∙ ap zeros P.len ∙ sym q)

    pub made_over_lem : {a : Answer} {b : List ℤ} → IsErr r → a ≡ told-only OVER total → b ≡ zeros (length m)
        → Made ns h a b s s₀
    unfolding making_code answered laid
    made_over_lem o =
        refuses OVER (ap (λ x. cond x OVER (cond (ltb h (height_of (product_coefficients ns))) TALL DONE)) (over_is ∙ o))
        refl refl

    module _ {made : SoFar} (made_is : r ≡ Ok made) where
      o : is_err r ≡ false
      o = ap is_err made_is

      M : ProductOf ns m made
      M = rw made_is at P.product

      by_height : (b : Bool) → ltb h made.height ≡ b → making_code ns h ≡ cond b TALL DONE
      unfolding making_code
      by_height b e =
          ap₂ (λ x y. cond x OVER (cond y TALL DONE)) (over_is ∙ o) (ap (ltb h) (sym M.height) ∙ e)

      pub made_tall : {a : Answer} {b : List ℤ} → h < made.height → a ≡ told-only TALL total → b ≡ zeros (length m)
          → Made ns h a b s s₀
      unfolding answered laid
      made_tall l = refuses TALL (by_height true (lt-ltb h made.height l)) refl refl

      pub made_done : made.height ≤ h → {g : ℤ} → g ≡ pos made.gain
          → Made ns h
          (record { code = DONE; degree = total; additions = 0; height = made.height; peak = made.peak; gain = g }) m s s₀
      unfolding answered laid
      made_done l read =
          by_code DONE (by_height false (le-ltb h made.height l))
          (same_done is refl M.height M.peak (read ∙ M.gain)) M.leaves

-- ---- the whole request
abbrev pub Answers : List ℕ → ℤ → Answer → List ℤ → List ℤ → List ℤ → List ℤ → Type 0
Answers ns h a b s l s₀ =
    (a ≡ answer ns h (length l) (length s₀)) × ((b ≡ leaves ns h l (length s₀)) × (s ≡ scratches ns h (length l) s₀))

module _ (ns : List ℕ) (h : ℤ) (l s₀ : List ℤ) where
  with_code : (c : ℕ) (a : Answer) (b s : List ℤ) → a ≡ answered ns c → b ≡ left ns c l → s ≡ scratched c s₀
      → code ns h (length l) (length s₀) ≡ c → Answers ns h a b s l s₀
  unfolding answer leaves scratches
  with_code c a b s p q t e =
      (p ∙ ap (answered ns) (sym e), (q ∙ ap (λ x. left ns x l) (sym e), t ∙ ap (λ x. scratched x s₀) (sym e)))

  -- a refusal that tells nothing, and leaves both buffers untouched
  pub at_list : {a : Answer} → a ≡ told-only LIST 0 → code ns h (length l) (length s₀) ≡ LIST → Answers ns h a l s₀ l s₀
  unfolding answered left scratched
  at_list e = with_code LIST _ l s₀ e refl refl

  pub at_index : {a : Answer} → a ≡ told-only INDEX 0 → code ns h (length l) (length s₀) ≡ INDEX
      → Answers ns h a l s₀ l s₀
  unfolding answered left scratched
  at_index e = with_code INDEX _ l s₀ e refl refl

  pub at_limit : {a : Answer} → a ≡ told-only LIMIT 0 → code ns h (length l) (length s₀) ≡ LIMIT
      → Answers ns h a l s₀ l s₀
  unfolding answered left scratched
  at_limit e = with_code LIMIT _ l s₀ e refl refl

  pub at_short : {a : Answer} → a ≡ told-only SHORT (total_degree ns) → code ns h (length l) (length s₀) ≡ SHORT
      → Answers ns h a l s₀ l s₀
  unfolding answered left scratched
  at_short e = with_code SHORT _ l s₀ e refl refl

-- ---- codes
module _ (ns : List ℕ) (h : ℤ) (room scratch : ℕ) where
  pub ask_list : (eqb (length ns) 0 || ltb 8 (length ns)) ≡ true → code ns h room scratch ≡ LIST
  unfolding code
  ask_list e = rw e

  module _ (few : (eqb (length ns) 0 || ltb 8 (length ns)) ≡ false) where
    pub ask_index : all_good ns ≡ false → code ns h room scratch ≡ INDEX
    unfolding code
    ask_index e = rw (few, e)

    pub ask_long : all_good ns ≡ true → ltb 65535 (total_degree ns) ≡ true → code ns h room scratch ≡ LIST
    unfolding code
    ask_long e f = rw (few, e, f)

    pub ask_limit : all_good ns ≡ true → ltb 65535 (total_degree ns) ≡ false → below_one h ≡ true
        → code ns h room scratch ≡ LIMIT
    unfolding code
    ask_limit e f g = rw (few, e, f, g)

pub some_index : {ns : List ℕ} {h : ℕ} → Ready ns h → 0 < length ns
some_index {ns} R =
    NatL.pos_of_ne-zero (eqb-false (length ns) 0 (neither (eqb (length ns) 0) (ltb 8 (length ns)) R.few).0)

module _ {ns : List ℕ} {h : ℕ} (R : Ready ns h) (room scratch : ℕ) where
  limit : below_one (pos h) ≡ false
  unfolding below_one
  limit = le-ltb h 1 R.limit

  pub ask_short : room ≤ total_degree ns → code ns (pos h) room scratch ≡ SHORT
  unfolding code
  ask_short b = rw (R.few, R.good, R.short, limit, le-leb room (total_degree ns) b)

  pub ask_scratch : scratch ≤ longest ns → code ns (pos h) room scratch ≡ SHORT
  unfolding code
  ask_scratch b =
      rw (R.few, R.good, R.short, limit, le-leb scratch (longest ns) b, or-true (leb room (total_degree ns)))

  pub ask_last : total_degree ns < room → longest ns < scratch → code ns (pos h) room scratch ≡ making_code ns h
  unfolding code making_code
  ask_last b c =
      rw (R.few, R.good, R.short, limit, lt-leb room (total_degree ns) b, lt-leb scratch (longest ns) c)

-- what the making leaves, in the whole buffers
coefficients-length : (ns : List ℕ) → length (product_coefficients ns) ≡ suc (total_degree ns)
unfolding product_coefficients
coefficients-length ns = length-firsts (suc (total_degree ns)) (product ns)

module _ (ns : List ℕ) (l s₀ : List ℤ) where
  Lasts : ℕ → Type 0
  Lasts c = (left ns c l ≡ laid ns c ++ drop (suc (total_degree ns)) l) × (scratched c s₀ ≡ zeros (length s₀))

  zeros-kept : written (zeros (suc (total_degree ns))) l ≡ zeros (suc (total_degree ns)) ++ drop (suc (total_degree ns)) l
  unfolding written zeros
  zeros-kept = ap (λ k. zeros (suc (total_degree ns)) ++ drop k l) (length-replicate (suc (total_degree ns)) 0ℤ)

  lasts : (over tall : Bool) → Lasts (cond over OVER (cond tall TALL DONE))
  unfolding Lasts left laid scratched written zeros
  lasts true tall = (zeros-kept, refl)
  lasts false true = (zeros-kept, refl)
  lasts false false = (ap (λ k. product_coefficients ns ++ drop k l) (coefficients-length ns), refl)

module _ {ns : List ℕ} {h : ℕ} (R : Ready ns h) (l s₀ : List ℤ) where
  pub at_last : {a : Answer} {b s : List ℤ} {total : ℕ} → total ≡ total_degree ns → total_degree ns < length l
      → longest ns < length s₀ → Made ns h a b s s₀ → Answers ns (pos h) a (b ++ drop (total + 1) l) s l s₀
  unfolding Lasts making_code
  at_last {a} {b} {s} {total} is room scratch (told, (kept, cleared)) =
      let c = making_code ns h in
      let w : Lasts ns l s₀ c = lasts ns l s₀ (cascade_over ns) (ltb h (height_of (product_coefficients ns))) in
      with_code ns (pos h) l s₀ c a (b ++ drop (total + 1) l) s told
      (ap₂ (λ x k. x ++ drop k l) kept (ap (λ x. x + 1) is ∙ add-one (total_degree ns)) ∙ sym w.0)
      (cleared ∙ sym w.1) (ask_last R (length l) (length s₀) room scratch)
