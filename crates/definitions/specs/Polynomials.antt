-- F(n) and I(n) (docs/RULES.md, 'F and I'): the product of F(d) over all divisors d of n is z^n - 1, for every n,
-- and F(n) I(n) = z^n - 1. So F(n) is z^n - 1 divided by the product of F(d) over the divisors d < n, and I(n) is z^n -
-- 1 divided by F(n). At n = 0, which has no polynomial, they are 1 and 0.
-- A kind is 1 for F and 2 for I; what a definition gives for kind 2 it gives for every number but 1, and requests
-- refuse those.
use Rattle.std.specs.Prelude.{ℕ, zero, suc, ◌-◌, cond, eqb}
use Rattle.definitions.specs.Series.{Series, 𝟙, ◌+ˢ◌, _ˢ, ◌·◌, ◌÷◌, z^}
use Rattle.definitions.specs.Numbers.{divides, phi}

-- g(1) g(2) .. g(k)
unfoldable pub product_to : ℕ → (ℕ → Series) → Series
product_to zero g = 𝟙
product_to (suc k) g = product_to k g · g (suc k)

-- g where d divides n, and no factor elsewhere
unfoldable pub at_divisors : ℕ → (ℕ → Series) → ℕ → Series
at_divisors n g d = cond (divides d n) (g d) 𝟙

-- the product of g(d) over all divisors d of n
unfoldable pub over_divisors : ℕ → (ℕ → Series) → Series
over_divisors n g = product_to n (at_divisors n g)

-- z^n - 1
unfoldable pub z^_1 : ℕ → Series
z^_1 n = z^ n +ˢ _ˢ 𝟙

-- F(1), .., F(k), one after the other
unfoldable pub family_to : ℕ → ℕ → Series
family_to zero d = 𝟙
family_to (suc k) d = cond (eqb d (suc k)) (z^_1 (suc k) ÷ product_to k (at_divisors (suc k) (family_to k))) (family_to k d)

unfoldable pub F : ℕ → Series
F n = family_to n n

unfoldable pub I : ℕ → Series
I n = z^_1 n ÷ F n

unfoldable pub polynomial : ℕ → ℕ → Series
polynomial kind n = cond (eqb kind 1) (F n) (I n)

-- the degree of F(n) is phi(n), that of I(n) is n - phi(n)
unfoldable pub degree : ℕ → ℕ → ℕ
degree kind n = cond (eqb kind 1) (phi n) (n - phi n)
