-- n taken apart (docs/RULES.md, 'How n is taken apart'), as the code holds it: the odd primes of n in ascending order
-- in five places, with zeros after the last; k, r, m, t, phi(r) and phi(n).
use Rattle.std.specs.Prelude.{ℕ, cond, ltb}
use Rattle.definitions.specs.Numbers.{odd_prime_of, list_to, phi, r_of, k_of, m_of, t_of}
unfoldable pub use Rattle.sieve.specs.Sieving.{padded}
use Rattle.index.specs.declared.Parts.{Parts}

unfoldable pub parts_of : ℕ → Parts
parts_of n = record {
  primes = padded (list_to n (odd_prime_of n));
  count = k_of n;
  r = r_of n;
  m = m_of n;
  t = t_of n;
  free = phi (r_of n);
  phi = phi n;
}

-- of every number: above 65,535 the parts are those of 0
unfoldable pub taken_apart : ℕ → Parts
taken_apart n = parts_of (cond (ltb 65535 n) 0 n)
