-- The worked polynomials of docs/RULES.md with their additions and gains, checked against the definitions by one
-- theorem over their list (`worked-right`): it computes. Among them is I(6) = -1 -1 0 1 1, from the definition with
-- z^n - 1; with the printed slip z^n + 1 it would start with 1.
use Rattle.std.specs.Prelude.{ℕ, ◌≡◌, refl, List, [], ◌∷◌, map, ℤ, pos, negsuc}
use Rattle.definitions.specs.Integers.{◌⊕◌, ◌⊗◌, ⊖}
use Rattle.definitions.specs.Series.{constant, ◌+ˢ◌, _ˢ, ◌·◌, ◌÷◌, z^, firsts}
use Rattle.definitions.specs.Numbers.{some_to, count_to, list_to, product_of_to, divides, share_factor, phi, is_prime}
use Rattle.definitions.specs.Numbers.{odd_prime_of, r_of}
use Rattle.definitions.specs.Polynomials.{product_to, at_divisors, z^_1, family_to, F, I, polynomial, degree}
use Rattle.definitions.specs.KeptHalf.{half_degree, sum_of, additions}
use Rattle.definitions.specs.Answer.{coefficients, gain_of, gain, additions_for}

-- 1, 0 and -1
abbrev p : ℤ
p = pos 1

abbrev o : ℤ
o = pos 0

abbrev n : ℤ
n = negsuc 0

pub record Worked : Type 0 where
  pub kind : ℕ
  pub index : ℕ
  pub printed : List ℤ
  pub added : ℕ
  pub sum : ℤ

row : ℕ → ℕ → List ℤ → ℕ → ℕ → Worked
row kind index printed added sum =
    record { kind = kind; index = index; printed = printed; added = added; sum = pos sum }

unfoldable pub worked : List Worked
unfolding row
worked =
    row 1 1 (n ∷ p ∷ []) 0 0 ∷
    row 1 2 (p ∷ p ∷ []) 0 2 ∷
    row 1 3 (p ∷ p ∷ p ∷ []) 1 3 ∷
    row 1 4 (p ∷ o ∷ p ∷ []) 0 2 ∷
    row 1 6 (p ∷ n ∷ p ∷ []) 1 1 ∷
    row 1 9 (p ∷ o ∷ o ∷ p ∷ o ∷ o ∷ p ∷ []) 1 3 ∷
    row 1 12 (p ∷ o ∷ n ∷ o ∷ p ∷ []) 1 1 ∷
    row 1 15 (p ∷ n ∷ o ∷ p ∷ n ∷ p ∷ o ∷ n ∷ p ∷ []) 6 1 ∷
    row 2 1 (p ∷ []) 0 1 ∷
    row 2 2 (n ∷ p ∷ []) 0 0 ∷
    row 2 3 (n ∷ p ∷ []) 0 0 ∷
    row 2 6 (n ∷ n ∷ o ∷ p ∷ p ∷ []) 0 0 ∷
    row 2 9 (n ∷ o ∷ o ∷ p ∷ []) 0 0 ∷
    row 2 15 (n ∷ n ∷ n ∷ o ∷ o ∷ p ∷ p ∷ p ∷ []) 4 0 ∷
    []

-- what the definitions give for a row's kind and index
unfoldable pub made : Worked → Worked
made w =
    record {
      kind = w.kind;
      index = w.index;
      printed = coefficients w.kind w.index;
      added = additions_for w.kind w.index;
      sum = gain w.kind w.index;
    }

pub worked-right : map made worked ≡ worked
unfolding row worked made ◌⊕◌ ◌⊗◌ ⊖ constant ◌+ˢ◌ _ˢ ◌·◌ ◌÷◌ z^ firsts some_to count_to list_to product_of_to divides
    share_factor phi is_prime odd_prime_of r_of product_to at_divisors z^_1 family_to F I polynomial degree half_degree sum_of
    additions coefficients gain_of gain additions_for
worked-right = refl
