-- OVER in the words of docs/RULES.md, 'The codes': of 64-bit entries, the height is above 2^63 - 1 exactly where an
-- entry is -2^63. And a record that holds -2^63 has no least width, so no width in its header is right.
use Prim.Native.Nat.{ℕ, zero, suc, ◌≤◌, ◌<◌, ◌^◌}
use mathlib.Core.Path.{◌≡◌, refl, sym, ap, ◌∙◌}
use mathlib.Core.Bool.{Bool, true, false, true≢false}
use mathlib.Core.List.{List, [], ◌∷◌}
use mathlib.Core.Logic.{◌↔◌}
use native.Mathlib.Omega.{arith}
use lib.ListN.{length, get_or}
use lib.IntN.{ℤ, pos, negsuc, nat_abs}
use lib.Signed.{mag}
use lib.Dec.{eqb, ltb}
use borrow.Author.Tests.{eqb-true, eqb-false, ltb-true, ltb-false, lt-ltb}
use Rattle.definitions.specs.Answer.{height_of}
use Rattle.definitions.specs.Steps.{largest}
use Rattle.widths.specs.Numbers.{width}
use Rattle.widths.proofs.Least.{width_some}

abbrev pub lowest : ℤ
lowest = negsuc 9223372036854775807

-- some entry is -2^63
abbrev pub HasLowest : List ℤ → Type 0
HasLowest cs = (i : ℕ) × (i < length cs) × (get_or cs i (pos 0) ≡ lowest)

is_lowest : (c : ℤ) → mag c < 2 ^ 63 → largest < nat_abs c → c ≡ lowest
is_lowest (pos n) h t = absurd (omega arith)
is_lowest (negsuc n) h t = ap negsuc (omega arith)

over→lowest : (cs : List ℤ) → ((i : ℕ) → mag (get_or cs i (pos 0)) < 2 ^ 63) → largest < height_of cs → HasLowest cs
unfolding height_of
over→lowest [] fits t = absurd (omega arith)
over→lowest (c ∷ cs) fits t = go (ltb largest (nat_abs c)) refl (over→lowest cs (λ i. fits (suc i)))
  where
    go : (b : Bool) → ltb largest (nat_abs c) ≡ b → (largest < height_of cs → HasLowest cs) → HasLowest (c ∷ cs)
    go true e more = (0, omega arith, is_lowest c (fits 0) (ltb-true largest (nat_abs c) e))
    go false e more =
        let h = more (omega (arith, ltb-false largest (nat_abs c) e)) in
        (suc h.0, omega (arith, h.1), h.2)

pub entry_height : (cs : List ℤ) (i : ℕ) → nat_abs (get_or cs i (pos 0)) ≤ height_of cs
unfolding height_of
entry_height [] i = omega arith
entry_height (c ∷ cs) zero = omega arith
entry_height (c ∷ cs) (suc i) = omega (arith, entry_height cs i)

lowest_over : (cs : List ℤ) → HasLowest cs → ltb largest (height_of cs) ≡ true
lowest_over cs h = lt-ltb largest (height_of cs) (omega (arith, ap nat_abs h.2, entry_height cs h.0))

pub over_means : (cs : List ℤ) → ((i : ℕ) → mag (get_or cs i (pos 0)) < 2 ^ 63)
    → (ltb largest (height_of cs) ≡ true) ↔ HasLowest cs
over_means cs fits = (
  λ t. over→lowest cs fits (ltb-true largest (height_of cs) t),
  lowest_over cs,
)

pub lowest_no_width : (cs : List ℤ) → HasLowest cs → width cs ≡ 0
lowest_no_width cs h = go (eqb (width cs) 0) refl
  where
    go : (b : Bool) → eqb (width cs) 0 ≡ b → width cs ≡ 0
    go true e = eqb-true (width cs) 0 e
    go false e = absurd (true≢false (sym (lowest_over cs h) ∙ (width_some cs (eqb-false (width cs) 0 e)).within))
