-- The digits that a text starts with: how many there are, where they stand and what they say.
use Rattle.std.proofs.Common.{◌≡◌, ℕ, zero, suc, ◌+◌, ◌*◌, ◌-◌, ◌^◌, ◌<◌, ◌≤◌, true, List, [], ◌∷◌, ◌++◌, length, get_or, take, refl, ap, arith, lit<}
use Rattle.std.specs.Char.{is_ascii_digit}
use Rattle.std.specs.List.{prefix_len}
use Rattle.std.proofs.lemmas.Bool.Decides.{nat_tests}
use native.Mathlib.Nat.{not-suc-le-zero, pow-le-pow_right}
use Rattle.step_laws.specs.Tests.{by_test}
use Rattle.digits.specs.Digits.{between, is_digit, digits, value_from, one_to_nine}

in_between : (low high b : ℕ) → between low high b ≡ true → (low ≤ b) × (b ≤ high)
unfolding between
in_between low high b e = grind (arith, nat_tests)

pub nine_range : (k : ℕ) → one_to_nine k ≡ true → (1 ≤ k) × (k ≤ 9)
nine_range k e = in_between 1 9 k e

-- how many they are, as std counts them
pub counted : (bs : List ℕ) → prefix_len is_ascii_digit bs ≡ length (digits bs)
unfolding digits between
counted [] = refl
counted (b ∷ bs) = by_test (is_digit b) (λ e. rw e (omega (arith, counted bs))) (λ e. rw e)

pub front : (bs : List ℕ) → take (length (digits bs)) bs ≡ digits bs
unfolding digits
front [] = refl
front (b ∷ bs) = by_test (is_digit b) (λ e. rw e (ap (λ r. b ∷ r) (front bs))) (λ e. rw e)

pub digit_range : (bs : List ℕ) (k : ℕ) → k < length (digits bs)
    → (48 ≤ get_or (digits bs) k 0) × (get_or (digits bs) k 0 ≤ 57)
unfolding digits
digit_range [] k h = absurd (not-suc-le-zero h)
digit_range (b ∷ bs) zero h =
    by_test (is_digit b) (λ e. rw e (in_between 48 57 b e)) (λ e. absurd (not-suc-le-zero (rw e at h)))
digit_range (b ∷ bs) (suc k) h =
    by_test (is_digit b) (λ e. rw e (digit_range bs k (let more = rw e at h in omega arith))) (λ e. absurd (not-suc-le-zero (rw e at h)))

pub value-more : (v : ℕ) (ds : List ℕ) (d : ℕ) → value_from v (ds ++ (d ∷ [])) ≡ value_from v ds * 10 + (d - 48)
unfolding value_from
value-more v [] d = refl
value-more v (x ∷ ds) d = value-more (v * 10 + (x - 48)) ds d

-- a number of at most k digits
pub small : (v i k : ℕ) → v < 10 ^ i → i ≤ k → v < 10 ^ k
small v i k h b = omega (arith, pow-le-pow_right {n = 10} (lit< tt) b)
