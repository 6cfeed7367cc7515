-- The least width: it takes its height and is one of the widths; there is none exactly where a height is above 2^63 -
-- 1. Shown of any list of widths.
use Prim.Native.Nat.{ℕ, ◌*◌, ◌≤◌, ◌<◌, ◌^◌}
use mathlib.Core.Path.{◌≡◌, refl, sym, ap, ◌∙◌, subst}
use mathlib.Core.Bool.{Bool, true, false, cond, ◌||◌, true≢false}
use mathlib.Core.List.{List, [], ◌∷◌}
use mathlib.Core.Logic.{◌⊎◌, inl, inr, ⊎_elim}
use native.Mathlib.Omega.{arith}
use lib.IntN.{ℤ}
use lib.Dec.{leb, ltb, eqb}
use borrow.Author.Tests.{leb-true, leb-false, eqb-true, eqb-false, eq-eqb, le-ltb, ltb-false, le-leb}
use Rattle.definitions.specs.Answer.{height_of}
use Rattle.definitions.specs.Steps.{largest}
use Rattle.widths.specs.Numbers.{top, widths, one_of, least_of, width}
use Rattle.widths.proofs.Widths.{full, full_mono}

pub or_right : (a b : Bool) → b ≡ true → (a || b) ≡ true
or_right true b e = refl
or_right false b e = e

pub or-false : (a : Bool) → a ≡ (a || false)
or-false true = refl
or-false false = refl

pub or_cases : (a b : Bool) → (a || b) ≡ true → (a ≡ true) ⊎ (b ≡ true)
or_cases true b e = inl refl
or_cases false b e = inr e

-- it is 0, or one of the widths and takes the height
abbrev Least : List ℕ → ℕ → ℕ → Type 0
Least ws h w = (w ≡ 0) ⊎ ((one_of ws w ≡ true) × (h ≤ top w))

least : (ws : List ℕ) (h : ℕ) → Least ws h (least_of ws h)
unfolding least_of one_of
least [] h = inl refl
least (w ∷ ws) h = go (leb h (top w)) refl (least_of ws h) (least ws h)
  where
    go : (b : Bool) → leb h (top w) ≡ b → (v : ℕ) → Least ws h v → Least (w ∷ ws) h (cond b w v)
    go true e v l = inr (rw (eq-eqb w w refl), leb-true h (top w) e)
    go false e v (inl z) = inl z
    go false e v (inr p) = inr (or_right (eqb v w) (one_of ws v) p.0, p.1)

-- where one of the widths takes the height, it isn't 0
found : (ws : List ℕ) (h w : ℕ) → one_of ws 0 ≡ false → one_of ws w ≡ true → h ≤ top w → least_of ws h ≡ 0 → ⊥
unfolding least_of one_of
found [] h w p o t z = true≢false (sym o)
found (v ∷ ws) h w p o t z = go (leb h (top v)) refl (eqb 0 v) refl p z (or_cases (eqb w v) (one_of ws w) o)
    (found ws h w)
  where
    go : (b : Bool) → leb h (top v) ≡ b → (a : Bool) → eqb 0 v ≡ a → (a || one_of ws 0) ≡ false → cond b v (least_of ws h)
        ≡ 0 →
        (eqb w v ≡ true) ⊎ (one_of ws w ≡ true)
        → (one_of ws 0 ≡ false → one_of ws w ≡ true → h ≤ top w → least_of ws h ≡ 0 → ⊥) → ⊥
    go true e true f q y s more = true≢false q
    go true e false f q y s more = eqb-false 0 v f (sym y)
    go false e true f q y s more = true≢false q
    go false e false f q y (inl s) more =
        let same : w ≡ v = eqb-true w v s in
        true≢false (sym (le-leb h (top v) (rw same at t)) ∙ e)
    go false e false f q y (inr s) more = more q s t y

-- what holds of each of the widths holds of one that is among them
pub width_cases : (P : ℕ → Type 0) → P 1 → P 2 → P 4 → P 8 → (w : ℕ) → one_of widths w ≡ true → P w
unfolding one_of
width_cases P one two four eight w o =
    is 1 one (one_of (2 ∷ 4 ∷ 8 ∷ []) w) (is 2 two (one_of (4 ∷ 8 ∷ []) w)
    (is 4 four (one_of (8 ∷ []) w) (is 8 eight false (λ e. absurd (true≢false (sym e)))))) o
  where
    is : (v : ℕ) → P v → (others : Bool) → (others ≡ true → P w) → (eqb w v || others) ≡ true → P w
    is v p others more o =
        ⊎_elim (λ e. subst P (sym (eqb-true w v e)) p) more (or_cases (eqb w v) others o)

pub width_bounds : (w : ℕ) → one_of widths w ≡ true → (0 < w) × (w ≤ 8)
width_bounds =
    width_cases (λ w. (0 < w) × (w ≤ 8)) (omega arith, omega arith) (omega arith, omega arith)
    (omega arith, omega arith) (omega arith, omega arith)

-- the last of them
pub width_last : (w : ℕ) → one_of widths w ≡ true → (w ≡ 1 → ⊥) → (w ≡ 2 → ⊥) → (w ≡ 4 → ⊥) → w ≡ 8
width_last =
    width_cases (λ w. (w ≡ 1 → ⊥) → (w ≡ 2 → ⊥) → (w ≡ 4 → ⊥) → w ≡ 8) (λ a b c. absurd (a refl))
    (λ a b c. absurd (b refl)) (λ a b c. absurd (c refl)) (λ a b c. refl)

-- the least width of a height, by where it lies
pub least_cases : (P : ℕ → Type 0) (h : ℕ) → (h ≤ 127 → P 1) → (127 < h → h ≤ 32767 → P 2)
    → (32767 < h → h ≤ 2147483647 → P 4) → (2147483647 < h → h ≤ 9223372036854775807 → P 8)
    → (9223372036854775807 < h → P 0) → P (least_of widths h)
unfolding least_of top
least_cases P h one two four eight none =
    go (leb h 127) refl (leb h 32767) refl (leb h 2147483647) refl (leb h 9223372036854775807) refl
  where
    go : (a : Bool) → leb h 127 ≡ a → (b : Bool) → leb h 32767 ≡ b → (c : Bool) → leb h 2147483647 ≡ c
        → (d : Bool) → leb h 9223372036854775807 ≡ d → P (cond a 1 (cond b 2 (cond c 4 (cond d 8 0))))
    go true ea b eb c ec d ed = one (leb-true h _ ea)
    go false ea true eb c ec d ed = two (leb-false h _ ea) (leb-true h _ eb)
    go false ea false eb true ec d ed = four (leb-false h _ eb) (leb-true h _ ec)
    go false ea false eb false ec true ed = eight (leb-false h _ ec) (leb-true h _ ed)
    go false ea false eb false ec false ed = none (leb-false h _ ed)

-- a height above 2^63 - 1 has no width
pub width-none : (cs : List ℤ) → width cs ≡ 0 → ltb largest (height_of cs) ≡ true
unfolding width one_of top
width-none cs z = go (ltb largest (height_of cs)) refl
  where
    go : (b : Bool) → ltb largest (height_of cs) ≡ b → b ≡ true
    go true e = refl
    go false e = absurd (found widths (height_of cs) 8 refl refl (ltb-false largest (height_of cs) e) z)

-- and else the width is one of the four and takes the height
pub record Fitting (cs : List ℤ) (w : ℕ) : Type 0 where
  pub one : one_of widths w ≡ true
  pub low : 0 < w
  pub high : w ≤ 8
  pub takes : height_of cs ≤ top w
  pub within : ltb largest (height_of cs) ≡ false

fitting : (cs : List ℤ) (w : ℕ) → one_of widths w ≡ true → height_of cs ≤ top w → Fitting cs w
fitting cs w o t =
    let b : (0 < w) × (w ≤ 8) = width_bounds w o in
    let small : 2 ^ (8 * w) ≤ 2 ^ 64 = full_mono b.1 in
    record {
      one = o;
      low = b.0;
      high = b.1;
      takes = t;
      within =
          le-ltb largest (height_of cs) (omega (arith, full w b.0));
    }

pub width_some : (cs : List ℤ) → (width cs ≡ 0 → ⊥) → Fitting cs (width cs)
unfolding width
width_some cs nz = ⊎_elim (λ z. absurd (nz z)) (λ p. fitting cs (width cs) p.0 p.1) (least widths (height_of cs))

-- as the functions have it
pub width-made : (cs : List ℤ) (h w : ℕ) → h ≡ height_of cs → w ≡ least_of widths h → w ≡ width cs
unfolding width
width-made cs h w e f = f ∙ ap (least_of widths) e

pub width_fits : (cs : List ℤ) (w : ℕ) → w ≡ width cs → 0 < w → Fitting cs w
width_fits cs w e h = rw e (width_some cs (λ z. omega arith))
