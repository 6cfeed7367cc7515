-- Images on the numbers as they stand in w bytes: what is negated adds up to 2^(8w) with its negative, or both are 0
-- (`negated_is`); and what stands for two numbers differs where they do (`unlike_is`). And what a
-- look at the first half finds (`uneven_all`).
use Rattle.std.proofs.Common.{◌≡◌, ℕ, zero, suc, ◌+◌, ◌-◌, ◌*◌, ◌/◌, ◌^◌, ◌<◌, ◌≤◌, Bool, true, false, cond, not, eqb, leb, List, length, ℤ, pos, negsuc, nat_abs, sym, refl, ap, ◌∙◌, arith, eqb-true, leb-false}
use borrow.Author.Tests.{eqb-false}
use Rattle.definitions.specs.Integers.{⊖}
use Rattle.definitions.specs.Steps.{entries}
use Rattle.definitions.specs.Answer.{height_of}
use Rattle.definitions.specs.Halves.{half_of, image, differ, uneven_to, uneven}
use Rattle.step_laws.specs.Tests.{by_test, not_false_is}
use Rattle.even_halves.specs.Halves.{same_differ, differ_same, abs_image, entry_within}
use Rattle.half_passes.specs.Any.{any_to, other_at}
use Rattle.widths.specs.Numbers.{top, twos, signed_of}
use Rattle.widths.proofs.Digits.{signed-twos, twos-signed}

pub negated_is : (w v r : ℕ) → v < 2 ^ (8 * w) → (v ≡ 0 → r ≡ 0) → (0 < v → r + v ≡ 2 ^ (8 * w))
    → r ≡ twos w (⊖ (signed_of w v))
unfolding twos signed_of ⊖
negated_is w v r small none some = go (leb v (top w)) refl
  where
    low : (n : ℕ) → v ≡ n → r ≡ twos w (⊖ (pos n))
    low zero e = none e
    low (suc n) e = omega (arith, some (omega arith))

    go : (b : Bool) → leb v (top w) ≡ b → r ≡ twos w (⊖ (cond b (pos v) (negsuc (2 ^ (8 * w) - suc v))))
    go true e = low v refl
    go false e = omega (arith, some (omega (arith, leb-false v (top w) e)))

pub numbers_differ : (w m b : ℕ) (x y : ℤ) → 0 < w → nat_abs x ≤ top w → m ≡ twos w x → b < 2 ^ (8 * w)
    → signed_of w b ≡ y → not (eqb m b) ≡ differ y x
numbers_differ w m b x y h t em small ey =
    by_test (eqb m b)
    (λ e. ap not e
    ∙ sym (same_differ y x (sym ey ∙ ap (signed_of w) (sym (eqb-true m b e) ∙ em) ∙ signed-twos w x h t)))
    (λ e. ap not e
    ∙ sym (not_false_is (differ y x)
    (λ d. eqb-false m b e (em ∙ ap (twos w) (sym (ey ∙ differ_same y x d)) ∙ twos-signed w b small))))

-- v stands for entry i of some that w bytes take, and m for its image
pub unlike_is : (negate : Bool) (cs : List ℤ) (w i v m b : ℕ) {y : ℤ} → 0 < w → i < length cs → height_of cs ≤ top w
    → signed_of w v ≡ entries cs i → m ≡ twos w (image negate (signed_of w v)) → (signed_of w b ≡ y) × (b < 2 ^ (8 * w))
    → not (eqb m b) ≡ differ y (image negate (entries cs i))
unlike_is negate cs w i v m b {y} h l t ev em (ey, small) =
    let x = image negate (entries cs i) in
    let within : nat_abs x ≤ top w = rw (abs_image negate (entries cs i)) (omega (arith, entry_within cs i l)) in
    numbers_differ w m b x y h within (em ∙ ap (λ z. twos w (image negate z)) ev) small ey

-- what is found among the first k, and among the first half
any_uneven : (negate : Bool) (cs : List ℤ) (n k : ℕ) → length cs ≡ n → any_to (other_at negate cs n) k ≡ uneven_to k negate cs
unfolding any_to uneven_to
any_uneven negate cs n zero e = refl
any_uneven negate cs n (suc k) e = rw (any_uneven negate cs n k e, e)

pub uneven_all : (negate : Bool) (cs : List ℤ) (n : ℕ) → length cs ≡ n
    → any_to (other_at negate cs n) (n - n / 2) ≡ uneven negate cs
unfolding uneven
uneven_all negate cs n e =
    let half : n - n / 2 ≡ half_of n = omega arith in
    rw (e, half) (any_uneven negate cs n (half_of n) e)
