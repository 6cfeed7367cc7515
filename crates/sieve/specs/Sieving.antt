-- What the sieve holds: the odd primes of n found up to k, and what is left of n when their factors are out.
use Rattle.std.specs.Prelude.{ℕ, ◌+◌, ◌*◌, ◌-◌, ◌<◌, List, ◌++◌, ◌≡◌, ◌≢◌, length, set, replicate}
use Rattle.std.specs.Int.{◌∣◌}
use Rattle.definitions.specs.Numbers.{odd_prime_of, count_to, list_to, product_of_to, phi}
use Rattle.numbers.specs.Primes.{Prime}
use Rattle.sieve.specs.declared.Sieve.{Sieve}
use Rattle.sieve.specs.declared.OddPrimes.{OddPrimes}

-- five places, for no index has more odd primes
unfoldable pub padded : List ℕ → List ℕ
padded l = l ++ replicate (5 - length l) 0

-- the odd primes of n up to k: they, their number, their product and its phi
unfoldable pub odd_to : ℕ → ℕ → OddPrimes
odd_to n k = record {
  primes = padded (list_to k (odd_prime_of n));
  count = count_to k (odd_prime_of n);
  product = product_of_to k (odd_prime_of n);
  free = phi (product_of_to k (odd_prime_of n));
}

-- one prime more
abbrev pub with_prime : OddPrimes → ℕ → OddPrimes
with_prime a p = record {
  primes = set a.primes a.count p;
  count = a.count + 1;
  product = a.product * p;
  free = a.free * (p - 1);
}

-- n with some of its factors p taken out: the other primes stay; and with all of them out
pub record Taking (n p x : ℕ) : Type 0 where
  pub pos : 0 < x
  pub part : x ∣ n
  pub kept : (q : ℕ) → Prime q → q ∣ n → q ≢ p → q ∣ x

pub record Without (n p x : ℕ) : Type 0 where
  pub taking : Taking n p x
  pub gone : ¬ (p ∣ x)

-- the odd primes of n up to k are found, and those above are the primes of what is left
pub record Sifted (n k : ℕ) (s : Sieve) : Type 0 where
  pub found : s.odd ≡ odd_to n k
  pub pos : 0 < s.rest
  pub part : s.rest ∣ n
  pub above : (q : ℕ) → Prime q → q ∣ s.rest → (k < q) × (q ≢ 2)
  pub kept : (q : ℕ) → Prime q → q ∣ n → q ≢ 2 → k < q → q ∣ s.rest
