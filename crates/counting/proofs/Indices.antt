-- The indices from a to b, one at a time from the last: none above b (`from_none`), one more in front (`from_more`).
-- With them go the heights that stand in the working entries (`filled_more`) and the additions, which stay small
-- (`additions_small`).
use Prim.Native.Nat.{ℕ, zero, suc, ◌+◌, ◌*◌, ◌-◌, ◌/◌, ◌^◌, ◌≤◌, ◌<◌}
use mathlib.Core.Path.{◌≡◌, refl, sym, ◌∙◌, ap}
use mathlib.Core.List.{List, [], ◌∷◌}
use native.Mathlib.Omega.{arith}
use native.Mathlib.Nat as NatL
use native.Mathlib.Numerals.{add-one}
use lib.ListN.{length, take, drop, set, get_or, length-set}
use lib.Seq.{drop-cons, drop-drop, get_or-set_same, drop-set-lt}
use lib.IntN.{ℤ, pos}
use Rattle.definitions.specs.Integers.{0ℤ}
use Rattle.definitions.specs.Numbers.{phi, r_of, k_of}
use Rattle.definitions.specs.KeptHalf.{half_degree}
use Rattle.definitions.specs.Answer.{height, additions_for}
use Rattle.definitions.specs.Polynomials.{degree}
use Rattle.numbers.specs.Apart.{r-divides, r_odd_squarefree}
use Rattle.numbers.specs.AtMostFive.{k_at_most_5}
use Rattle.numbers.specs.Phi.{phi-le}
use Rattle.numbers.specs.Below.{additions_at_most}
use Rattle.counting.specs.Census.{indices, from_to, all_additions}
use Rattle.counting.specs.Passes.{heights_of}

-- some indices: the first, and those after it
indices_some : (n m k : ℕ) → m ≡ suc k → indices n m ≡ n ∷ indices (suc n) k
unfolding indices
indices_some n m k e = ap (indices n) e

pub from_none : (b : ℕ) → from_to (suc b) b ≡ []
unfolding from_to indices
from_none b = let no : suc b - suc b ≡ 0 = omega arith in ap (indices (suc b)) no

pub from_more : (n b : ℕ) → n ≤ b → from_to n b ≡ n ∷ from_to (suc n) b
unfolding from_to
from_more n b l = indices_some n (suc b - n) (suc b - suc n) (omega arith)

-- the last i are known: with the one before them
pub indices-before : (a i k : ℕ) → 0 < i → i ≤ k
    → indices (a + (i - 1)) (k - (i - 1)) ≡ (a + (i - 1)) ∷ indices (a + i) (k - i)
indices-before a i k some most =
    let next : suc (a + (i - 1)) ≡ a + i = omega arith in
    indices_some (a + (i - 1)) (k - (i - 1)) (k - i) (omega arith)
    ∙ ap (λ j. (a + (i - 1)) ∷ indices j (k - i)) next

-- the entry of an index
pub height_at : (a k i : ℕ) → i < k → get_or (heights_of (indices a k)) i 0ℤ ≡ pos (height 1 (a + i))
unfolding heights_of indices
height_at a zero i l = absurd (omega arith)
height_at a (suc k) zero l = ap (λ n. pos (height 1 n)) (sym (NatL.add-zero a))
height_at a (suc k) (suc i) l =
    let next : suc a + i ≡ a + suc i = omega arith in
    height_at (suc a) k i (omega arith) ∙ ap (λ n. pos (height 1 n)) next

-- the heights, in entries from n on
pub heights_none : heights_of [] ≡ []
unfolding heights_of
heights_none = refl

pub filled_more :
    (x y : List ℤ) (n b : ℕ) → n ≤ b → n < length x → drop n x ≡ drop n y
    → take (suc b - suc n) (drop (suc n) y) ≡ heights_of (from_to (suc n) b)
    → take (suc b - n) (drop n (set x n (pos (height 1 n)))) ≡ heights_of (from_to n b)
unfolding heights_of
filled_more x y n b l inside same rest =
    let one : suc b - n ≡ suc (suc b - suc n) = omega arith in
    let first : drop n (set x n v) ≡ v ∷ drop (suc n) y =
    drop-cons (set x n v) n 0ℤ (rw (length-set x n v) inside)
    ∙ (ap (λ z. z ∷ drop (suc n) (set x n v)) (get_or-set_same x n v 0ℤ inside)
    ∙ ap (λ z. v ∷ z) (drop-set-lt (suc n) x n v (omega arith) ∙ after)) in
    rw (one, first, from_more n b l) (ap (λ z. v ∷ z) rest)
  where
    v : ℤ
    v = pos (height 1 n)

    after : drop (suc n) x ≡ drop (suc n) y
    after =
        ap (λ k. drop k x) (sym (add-one n))
        ∙ (sym (drop-drop 1 n x) ∙ (ap (drop 1) same ∙ (drop-drop 1 n y ∙ ap (λ k. drop k y) (add-one n))))

-- the additions, one index more; and that they stay small
pub additions-none : all_additions [] ≡ 0
unfolding all_additions
additions-none = refl

pub additions_more : (n : ℕ) (ns : List ℕ) → all_additions (n ∷ ns) ≡ additions_for 1 n + all_additions ns
unfolding all_additions
additions_more n ns = refl

pub additions-few : (n : ℕ) → 0 < n → n ≤ 65535 → additions_for 1 n ≤ 2097152
unfolding additions_for half_degree degree
additions-few n low high =
    let r : r_of n ≤ 65535 = NatL.le_trans (NatL.le_of_dvd low (r-divides n)) high in
    let k : 2 ^ k_of (r_of n) ≤ 2 ^ 5 = NatL.pow-le-pow_right (omega arith) (k_at_most_5 (r_of n) r) in
    let d : phi (r_of n) / 2 + 1 ≤ 65536 = omega (arith, phi-le (r_of n), r) in
    NatL.le_trans (additions_at_most 1 (r_of n) (r_odd_squarefree n)) (NatL.mul-le-mul k d)

pub additions_small : (a k : ℕ) → 0 < a → a + k ≤ 65536 → all_additions (indices a k) ≤ k * 2097152
unfolding all_additions indices
additions_small a zero low high = omega arith
additions_small a (suc k) low high =
    omega (
      arith,
      additions-few a low (omega arith),
      additions_small (suc a) k (omega arith) (omega arith),
      NatL.suc-mul k 2097152,
    )
