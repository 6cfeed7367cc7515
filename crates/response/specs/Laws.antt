-- The response as a pass from the highest coefficient down meets it: what one coefficient more makes of the value
-- (`value_more`) and of the test (`coarse_more`); that a coarse coefficient met is one of all (`coarse_some`); and that
-- one that is not coarse is a float exactly (`fine_exact`).
use Rattle.std.specs.Prelude.{◌≡◌, true, false, ◌||◌, List, [], ◌∷◌, ℕ, zero, suc, ◌-◌, ◌^◌, ◌≤◌, ◌<◌, T, length, get_or, drop, ℤ, pos, negsuc, nat_abs}
use Rattle.std.proofs.Math.Path.{refl, sym, ap}
use Rattle.std.proofs.Common.{◌∙◌, true≢false, arith, lt-ltb, le-ltb, ltb-true, ltb-false, le→leb, lt→ltb, drop-cons}
use Rattle.std.proofs.Math.Bool.{or-true}
use Rattle.std.proofs.Math.Seq.{drop-length}
use Rattle.std.specs.Int.Signed.{lt_z}
use Rattle.std.specs.Float.{binary64}
use Rattle.std.specs.Float.Ieee.{in_float}
use Rattle.definitions.specs.Integers.{0ℤ}
use Rattle.definitions.specs.Codes.{DONE, POINT, COARSE}
use Rattle.response.specs.declared.Point.{Point}
use Rattle.response.specs.Response.{0ᶠ, next_at, origin, value_at, is_inside, is_coarse, some_coarse}
use Rattle.response.specs.Response.{code, answered, answer}

-- the coefficients from `left` on, and the one before them
module _ (cs : List ℤ) (left : ℕ) (some : 0 < left) (most : left ≤ length cs) where
  drop-before : drop (left - 1) cs ≡ get_or cs (left - 1) 0ℤ ∷ drop left cs
  drop-before =
      let after : suc (left - 1) ≡ left = omega arith in
      drop-cons cs (left - 1) 0ℤ (omega arith) ∙ ap (λ j. get_or cs (left - 1) 0ℤ ∷ drop j cs) after

  pub value_more : (at : Point)
      → next_at (value_at (drop left cs) at) at (get_or cs (left - 1) 0ℤ) ≡ value_at (drop (left - 1) cs) at
  unfolding value_at
  value_more at = sym (ap (λ l. value_at l at) drop-before)

  pub coarse_more : some_coarse (drop (left - 1) cs) ≡ (is_coarse (get_or cs (left - 1) 0ℤ) || some_coarse (drop left cs))
  unfolding some_coarse
  coarse_more = ap some_coarse drop-before

pub value_none : (cs : List ℤ) (at : Point) → value_at (drop (length cs) cs) at ≡ origin
unfolding value_at
value_none cs at = ap (λ l. value_at l at) (drop-length cs)

pub coarse_none : (cs : List ℤ) → some_coarse (drop (length cs) cs) ≡ false
unfolding some_coarse
coarse_none cs = ap some_coarse (drop-length cs)

pub coarse_some : (cs : List ℤ) (i : ℕ) → some_coarse (drop i cs) ≡ true → some_coarse cs ≡ true
unfolding some_coarse
coarse_some cs zero h = h
coarse_some [] (suc i) h = h
coarse_some (c ∷ cs) (suc i) h = rw (coarse_some cs i h) (or-true (is_coarse c))

pub fine_small : (c : ℤ) → nat_abs c ≤ 2 ^ 53 → is_coarse c ≡ false
unfolding is_coarse
fine_small c l = le-ltb (2 ^ 53) (nat_abs c) l

pub fine_exact : (c : ℤ) → is_coarse c ≡ false → T (in_float binary64 c)
unfolding is_coarse in_float
fine_exact (pos n) h = le→leb n (2 ^ 53) (ltb-false (2 ^ 53) n h)
fine_exact (negsuc n) h = lt→ltb n (2 ^ 53) (ltb-false (2 ^ 53) (suc n) h)

-- the two tests for a coarse coefficient, one after the other
pub coarse_low : (c : ℤ) → lt_z c (negsuc 9007199254740991) ≡ true → lt_z c (negsuc 9007199254740991) ≡ is_coarse c
unfolding is_coarse
coarse_low (pos n) h = absurd (true≢false (sym h))
coarse_low (negsuc n) h = h ∙ sym (lt-ltb (2 ^ 53) (suc n) (omega (arith, ltb-true 9007199254740991 n h)))

pub coarse_high : (c : ℤ) → lt_z c (negsuc 9007199254740991) ≡ false → lt_z (pos 9007199254740992) c ≡ is_coarse c
unfolding is_coarse
coarse_high (pos n) h = refl
coarse_high (negsuc n) h = sym (le-ltb (2 ^ 53) (suc n) (omega (arith, ltb-false 9007199254740991 n h)))

-- the answer for each outcome of a pass
module _ (cs : List ℤ) (at : Point) where
  pub outside-answer : is_inside at ≡ false → answer cs at ≡ record { code = POINT; real = 0ᶠ; imag = 0ᶠ }
  unfolding answer answered code
  outside-answer h = rw h refl

  module _ (h : is_inside at ≡ true) where
    pub coarse_answer : some_coarse cs ≡ true → answer cs at ≡ record { code = COARSE; real = 0ᶠ; imag = 0ᶠ }
    unfolding answer answered code
    coarse_answer g = rw (h, g) refl

    pub delivered : some_coarse cs ≡ false
        → answer cs at ≡ record { code = DONE; real = (value_at cs at).real; imag = (value_at cs at).imag }
    unfolding answer answered code
    delivered g = rw (h, g) refl
