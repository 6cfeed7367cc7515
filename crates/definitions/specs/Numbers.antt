-- Divisors, primes, phi, and how n is taken apart (docs/RULES.md, 'F and I' and 'How n is taken apart').
-- Each is a walk over 1, 2, .., k that asks a question of every number on the way. At n = 0: phi, r, k and the list of
-- divisors are those of an empty walk (0, 1, 0, none), m is 2 and t is 0; no request asks for them.
use Rattle.std.specs.Prelude.{ℕ, zero, suc, ◌+◌, ◌*◌, ◌-◌, ◌/◌, ◌%◌, Bool, false, cond, not, ◌&&◌, ◌||◌, List, [], ◌∷◌, ◌++◌, eqb, ltb, get_or}

-- does one of 1, .., k have the property; how many do; which, in ascending order
unfoldable pub some_to : ℕ → (ℕ → Bool) → Bool
some_to zero p = false
some_to (suc k) p = some_to k p || p (suc k)

unfoldable pub count_to : ℕ → (ℕ → Bool) → ℕ
count_to zero p = 0
count_to (suc k) p = count_to k p + cond (p (suc k)) 1 0

unfoldable pub list_to : ℕ → (ℕ → Bool) → List ℕ
list_to zero p = []
list_to (suc k) p = list_to k p ++ cond (p (suc k)) (suc k ∷ []) []

-- the product of those of 1, .., k that have the property
unfoldable pub product_of_to : ℕ → (ℕ → Bool) → ℕ
product_of_to zero p = 1
product_of_to (suc k) p = product_of_to k p * cond (p (suc k)) (suc k) 1

-- the product of the first i of a row
unfoldable pub row_to : List ℕ → ℕ → ℕ
row_to l zero = 1
row_to l (suc i) = row_to l i * get_or l i 0

-- d divides n
unfoldable pub divides : ℕ → ℕ → Bool
divides d n = eqb (n % d) 0

-- a and b share a factor: a number above 1 divides both
unfoldable pub share_factor : ℕ → ℕ → Bool
share_factor a b = some_to a (λ c. ltb 1 c && divides c a && divides c b)

-- phi(n), the count of numbers from 1 to n that share no factor above 1 with n
unfoldable pub phi : ℕ → ℕ
phi n = count_to n (λ a. not (share_factor a n))

-- p is above 1 and no number between 1 and p divides it
unfoldable pub is_prime : ℕ → Bool
is_prime p = ltb 1 p && not (some_to (p - 1) (λ c. ltb 1 c && divides c p))

-- p is an odd prime of n
unfoldable pub odd_prime_of : ℕ → ℕ → Bool
odd_prime_of n p = is_prime p && divides p n && not (eqb p 2)

-- r, the product of the distinct odd primes of n, and k, their number
unfoldable pub r_of : ℕ → ℕ
r_of n = product_of_to n (odd_prime_of n)

unfoldable pub k_of : ℕ → ℕ
k_of n = count_to n (odd_prime_of n)

-- m is r if n is odd and 2 r if n is even; t = n / m
unfoldable pub m_of : ℕ → ℕ
m_of n = cond (divides 2 n) (2 * r_of n) (r_of n)

unfoldable pub t_of : ℕ → ℕ
t_of n = n / m_of n

-- the divisors d of r with d < r, in ascending order
unfoldable pub divisors_below : ℕ → List ℕ
divisors_below r = list_to (r - 1) (λ d. divides d r)

-- how many primes q has; mu of a set of primes is +1 for an even number of them and -1 for an odd number
unfoldable pub primes_of : ℕ → ℕ
primes_of q = count_to q (λ p. is_prime p && divides p q)

unfoldable pub mu_is_plus : ℕ → Bool
mu_is_plus q = eqb (primes_of q % 2) 0
