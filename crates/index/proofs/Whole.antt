-- From the odd primes of n to n taken apart: r and phi(r) are theirs, m and t follow, and phi(n) = phi(r) t.
use Prim.Native.Nat.{ℕ, ◌*◌, ◌/◌, ◌≤◌, ◌<◌}
use mathlib.Core.Path.{◌≡◌, sym, ap, ◌∙◌}
use mathlib.Core.Bool.{cond}
use native.Mathlib.Nat.{le_of_dvd, le_trans}
use Rattle.definitions.specs.Numbers.{divides, r_of, k_of, m_of, t_of, phi}
use Rattle.numbers.specs.Apart.{r-divides, m-pos as of_m}
use Rattle.numbers.specs.Phi.{phi-le}
use Rattle.numbers.specs.PhiApart.{phi-apart}
use Rattle.sieve.specs.declared.OddPrimes.{OddPrimes}
use Rattle.index.specs.declared.Parts.{Parts}
use Rattle.index.specs.Parts.{parts_of}
use Rattle.sieve.specs.Sieving.{odd_to}

module _ (n : ℕ) (l : 0 < n) (u : n ≤ 65535) (o : OddPrimes) (h : o ≡ odd_to n n) where
  product-r : o.product ≡ r_of n
  unfolding odd_to r_of
  product-r = ap (λ x. x.product) h

  free-r : o.free ≡ phi (r_of n)
  unfolding odd_to r_of
  free-r = ap (λ x. x.free) h

  pub r_small : o.product ≤ 65535
  r_small = rw product-r (le_trans (le_of_dvd l (r-divides n)) u)

  module _ (m : ℕ) (e : m ≡ cond (divides 2 n) (2 * o.product) o.product) where
    is_m : m ≡ m_of n
    unfolding m_of
    is_m = e ∙ ap (λ r. cond (divides 2 n) (2 * r) r) product-r

    pub m-pos : 0 < m
    m-pos = rw is_m (of_m n l)

    is_phi : o.free * (n / m) ≡ phi n
    unfolding t_of
    is_phi = rw (is_m, free-r) (sym (phi-apart n l))

    pub phi_small : o.free * (n / m) ≤ 65535
    phi_small = rw is_phi (le_trans (phi-le n) u)

    pub all-parts :
        ◌≡◌ {A = Parts}
        (record {
          primes = o.primes;
          count = o.count;
          r = o.product;
          m = m;
          t = n / m;
          free = o.free;
          phi = o.free * (n / m);
        })
        (parts_of n)
    unfolding parts_of odd_to k_of r_of t_of
    all-parts =
        λ i.
        record {
          primes = (h i).primes;
          count = (h i).count;
          r = product-r i;
          m = is_m i;
          t = n / is_m i;
          free = free-r i;
          phi = is_phi i;
        }
