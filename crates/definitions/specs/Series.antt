-- Power series with whole coefficients: f i is the coefficient at degree i. A polynomial is a series that is 0 from
-- some degree on (crate `series`).
use Rattle.std.specs.Prelude.{ℕ, zero, suc, cond, List, [], ◌∷◌, ℤ, eqb, ◌%◌, ◌/◌, ◌-◌}
use Rattle.definitions.specs.Integers.{◌⊕◌, ◌⊗◌, ⊖, ◌⊝◌, 0ℤ, 1ℤ}

abbrev pub Series : Type 0
Series = ℕ → ℤ

-- f without its first coefficient, each of the others one degree lower
abbrev pub tail : Series → Series
tail f i = f (suc i)

unfoldable pub constant : ℤ → Series
constant a zero = a
constant a (suc i) = 0ℤ

abbrev pub 𝟘 : Series
𝟘 = constant 0ℤ

abbrev pub 𝟙 : Series
𝟙 = constant 1ℤ

infixl 6 ◌+ˢ◌
infixl 7 ◌·◌ ◌÷◌
unfoldable pub ◌+ˢ◌ : Series → Series → Series
◌+ˢ◌ f g i = f i ⊕ g i

unfoldable pub _ˢ : Series → Series
_ˢ f i = ⊖ (f i)

-- f g = f(0) g + z (tail f) g
unfoldable pub ◌·◌ : Series → Series → Series
◌·◌ f g zero = f zero ⊗ g zero
◌·◌ f g (suc i) = f zero ⊗ g (suc i) ⊕ ◌·◌ (tail f) g i

-- long division by a series that starts with 1 or -1: the quotient's first coefficient is q = f(0) g(0), and the others
-- are those of (f - q g) / z divided by g
unfoldable pub ◌÷◌ : Series → Series → Series
◌÷◌ f g zero = f zero ⊗ g zero
◌÷◌ f g (suc i) = ◌÷◌ (λ j. f (suc j) ⊝ f zero ⊗ g zero ⊗ g (suc j)) g i

-- z^n
unfoldable pub z^ : ℕ → Series
z^ n i = cond (eqb i n) 1ℤ 0ℤ

-- f with z^t put for z: coefficients move to degree times t, zeros between
unfoldable pub spread : ℕ → Series → Series
spread t f i = cond (eqb (i % t) 0) (f (i / t)) 0ℤ

-- f with the coefficients at odd degrees negated
unfoldable pub alternate : Series → Series
alternate f i = cond (eqb (i % 2) 0) (f i) (⊖ (f i))

-- the first n coefficients, those at degrees 0 to n - 1, lowest degree first
unfoldable pub firsts : ℕ → Series → List ℤ
firsts zero f = []
firsts (suc n) f = f zero ∷ firsts n (tail f)
