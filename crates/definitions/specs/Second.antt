-- The second engine (docs/RULES.md, 'The second engine'): with p the largest of r's odd primes and m = r / p, F(r) is
-- F(m), with z^p for z, times I(m), divided by z^m - 1; and I(r) is I(m), with z^p for z, times F(m). It starts from
-- F(1) = z - 1 and I(1) = 1.
use Rattle.std.specs.Prelude.{ℕ, zero, suc, Bool, false, cond, ◌||◌, List, eqb, get_or}
use Rattle.definitions.specs.Series.{Series, 𝟙, ◌·◌, ◌÷◌, spread}
use Rattle.definitions.specs.Numbers.{list_to, row_to, odd_prime_of, k_of}
use Rattle.definitions.specs.Polynomials.{z^_1}
use Rattle.definitions.specs.Steps.{some_outside, largest}

-- I for F, and F for I
unfoldable pub other_kind : ℕ → ℕ
other_kind kind = cond (eqb kind 1) 2 1

-- what it makes of the first j of a row of primes ps: of F there is a division after the product
unfoldable pub made : ℕ → List ℕ → ℕ → Series
made kind ps zero = cond (eqb kind 1) (z^_1 1) 𝟙
made kind ps (suc j) =
    let product : Series = spread (get_or ps j 0) (made kind ps j) · made (other_kind kind) ps j in
    cond (eqb kind 1) (product ÷ z^_1 (row_to ps j)) product

-- the product for one prime more, before the division
unfoldable pub before_division : ℕ → List ℕ → ℕ → Series
before_division kind ps j = spread (get_or ps j 0) (made kind ps j) · made (other_kind kind) ps j

-- a coefficient at degree 0 to r is out of range; nothing that is made for r has a higher degree
unfoldable pub outside : ℕ → Series → Bool
outside r f = some_outside largest 0 (suc r) f

-- on the way to the first j primes of a row a product or a polynomial has a coefficient out of range
unfoldable pub made_over : ℕ → List ℕ → ℕ → Bool
made_over kind ps zero = false
made_over kind ps (suc j) =
    made_over kind ps j || made_over (other_kind kind) ps j
    || outside (row_to ps (suc j)) (before_division kind ps j) || outside (row_to ps (suc j)) (made kind ps (suc j))

-- so on the way to the r of n
unfoldable pub second_over : ℕ → ℕ → Bool
second_over kind n = made_over kind (list_to n (odd_prime_of n)) (k_of n)
