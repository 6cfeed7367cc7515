-- The digits of a number: those of its tenth and the last one; and how many they are: as many as `{}` writes, which are
-- these digits.
use mathlib.Core.Path.{◌≡◌, sym, ◌∙◌, ap}
use mathlib.Core.List.{[], ◌∷◌, ◌++◌}
use Prim.Native.Nat.{ℕ, zero, suc, ◌+◌, ◌/◌, ◌%◌, ◌^◌, ◌<◌, ◌≤◌}
use native.Mathlib.Nat.{not-suc-le-zero}
use native.Mathlib.Omega.{arith}
use borrow.Author.Tests.{lt-ltb, le-ltb}
use lib.Dec.{lit<}
use lib.ListN.{length, length-append}
use Rattle.std.proofs.lemmas.Fmt.{AppendsLastDigit, decimal_from_appends, length-decimal-le, length-decimal-le_succ}
use Rattle.std.specs.Fmt.{decimal as display}
use Rattle.step_laws.specs.Tests.{by_order}
use Rattle.text.specs.Text.{decimal_in, decimal}

one_digit : (t n : ℕ) → n < 10 → decimal_in (suc t) n ≡ (48 + n) ∷ []
unfolding decimal_in
one_digit t n h = rw (lt-ltb n 10 h)

more_digits : (t n : ℕ) → 10 ≤ n → decimal_in (suc t) n ≡ decimal_in t (n / 10) ++ ((48 + n % 10) ∷ [])
unfolding decimal_in
more_digits t n h = rw (le-ltb n 10 h)

-- any number of turns above n will do
enough : (t u n : ℕ) → n < t → n < u → decimal_in t n ≡ decimal_in u n
enough zero u n h k = absurd (not-suc-le-zero h)
enough (suc t) zero n h k = absurd (not-suc-le-zero k)
enough (suc t) (suc u) n h k =
    by_order n 10 (λ b. one_digit t n b ∙ sym (one_digit u n b))
    (λ b. more_digits t n b ∙ ap (λ r. r ++ ((48 + n % 10) ∷ [])) (enough t u (n / 10) (omega arith) (omega arith))
    ∙ sym (more_digits u n b))

pub decimal_small : (n : ℕ) → n < 10 → decimal n ≡ (48 + n) ∷ []
unfolding decimal
decimal_small n h = one_digit n n h

pub decimal_more : (n : ℕ) → 10 ≤ n → decimal n ≡ decimal (n / 10) ++ ((48 + n % 10) ∷ [])
unfolding decimal
decimal_more n h =
    more_digits n n h
    ∙ ap (λ r. r ++ ((48 + n % 10) ∷ [])) (enough n (suc (n / 10)) (n / 10) (omega arith) (omega arith))

-- one digit more than its tenth has
pub length_more : (n : ℕ) → 10 ≤ n → length (decimal n) ≡ length (decimal (n / 10)) + 1
length_more n h = ap length (decimal_more n h) ∙ length-append (decimal (n / 10)) ((48 + n % 10) ∷ [])

pub some_digit : (n : ℕ) → 1 ≤ length (decimal n)
unfolding decimal
some_digit n =
    by_order n 10 (λ b. omega (arith, ap length (one_digit n n b)))
    (λ b. omega (arith, ap length (more_digits n n b), length-append (decimal_in n (n / 10)) ((48 + n % 10) ∷ [])))

-- what `{}` writes for a machine number
pub as_displayed : (n : ℕ) → n < 2 ^ 64 → display n ≡ decimal n
unfolding decimal
as_displayed n h =
    sym (decimal_from_appends decimal_in in_turn (suc n) n h (omega (arith, length-decimal-le_succ n h)))
  where
    in_turn : AppendsLastDigit decimal_in
    in_turn = record { one = one_digit; more = more_digits }

pub length_machine : (n : ℕ) → n < 2 ^ 64 → length (decimal n) ≤ 20
length_machine n h = rw (← as_displayed n h) (length-decimal-le 20 n (lit< tt) (omega arith) h)
