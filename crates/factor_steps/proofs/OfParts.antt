-- n taken apart: its odd primes stand in their row, the sizes that they make stay at most n, and their terms make F(n).
use Prim.Native.Nat.{ℕ, ◌*◌, ◌%◌, ◌<◌, ◌≤◌, ◌∣◌}
use mathlib.Core.Path.{◌≡◌, sym, ◌∙◌, ap, subst}
use mathlib.Core.Bool.{true}
use mathlib.Core.Logic.{◌≢◌}
use native.Mathlib.Nat as NatL
use native.Mathlib.Omega.{arith}
use Rattle.definitions.specs.Series.{◌·◌}
use Rattle.definitions.specs.Numbers.{odd_prime_of, list_to, r_of, k_of, t_of}
use Rattle.definitions.specs.Polynomials.{F}
use Rattle.definitions.specs.Requests.{good_index}
use Rattle.definitions.specs.Steps.{comb, accumulate}
use Rattle.numbers.specs.Primes.{prime_pos}
use Rattle.numbers.specs.Apart.{m-times_t, m_even, m_odd, t_pos}
use Rattle.numbers.specs.AtMostFive.{k_at_most_5}
use Rattle.index.proofs.Laws.{index_good}
use Rattle.index.specs.Parts.{padded, parts_of}
use Rattle.index.specs.declared.Parts.{Parts}
use Rattle.index.proofs.Rows.{entry_new, row-r}
use Rattle.factor_steps.specs.Factors.{terms_of, odd_factor, even_factor}
use Rattle.factor_steps.specs.Multiplied.{Due}

module _ (n : ℕ) (pos : 0 < n) (most : n ≤ 65535) where
  due_of : (s : ℕ) → 1 ≤ s → s * r_of n ≤ 65535 → Due (parts_of n).primes (parts_of n).count s
  unfolding parts_of
  due_of s one h =
      record {
        few = k_at_most_5 n most;
        size = one;
        each = λ i b. prime_pos (entry_new n i b).0;
        most = rw (row-r n) h;
      }

  -- even n: r (2 t) is n
  module _ (even : n % 2 ≡ 0) where
    twice : 2 * t_of n * r_of n ≡ n
    twice =
        NatL.mul_comm (2 * t_of n) (r_of n)
        ∙ sym (NatL.mul_assoc (r_of n) 2 (t_of n))
        ∙ ap (λ a. a * t_of n)
        (NatL.mul_comm (r_of n) 2 ∙ sym (m_even n (NatL.dvd_of_mod-eq-zero 2 even)))
        ∙ m-times_t n

    due_twice : Due (parts_of n).primes (parts_of n).count (2 * t_of n)
    due_twice = due_of (2 * t_of n) (omega (arith, t_pos n pos)) (omega (arith, twice))

    due_once : Due (parts_of n).primes (parts_of n).count (t_of n)
    due_once =
        due_of (t_of n) (t_pos n pos)
        (omega (arith, NatL.mul_assoc 2 (t_of n) (r_of n), twice))

  module _ (odd : ¬ (n % 2 ≡ 0)) where
    not_even : ¬ (2 ∣ n)
    not_even d = odd (NatL.mod-eq-zero_of_dvd 2 d)

    due_odd : Due (parts_of n).primes (parts_of n).count (t_of n)
    due_odd =
        due_of (t_of n) (t_pos n pos)
        (omega (
          arith,
          NatL.mul_comm (t_of n) (r_of n) ∙ ap (λ a. a * t_of n) (sym (m_odd n not_even)) ∙ m-times_t n,
        ))

-- the same of the parts that are handed on
module _ (p : Parts) (n : ℕ) (is : p ≡ parts_of n) (good : good_index n ≡ true) where
  in_range_lem : (0 < n) × (n ≤ 65535)
  in_range_lem = index_good n good

  pub count_few : p.count ≤ 5
  unfolding parts_of
  count_few = subst (λ q. q.count ≤ 5) (sym is) (k_at_most_5 n in_range_lem.1)

  module _ (even : n % 2 ≡ 0) where
    pub even_larger : Due p.primes p.count (2 * p.t)
    unfolding parts_of
    even_larger =
        subst (λ q. Due q.primes q.count (2 * q.t)) (sym is) (due_twice n in_range_lem.0 in_range_lem.1 even)

    pub even_same : Due p.primes p.count p.t
    unfolding parts_of
    even_same = subst (λ q. Due q.primes q.count q.t) (sym is) (due_once n in_range_lem.0 in_range_lem.1 even)

    pub even_terms : terms_of p.primes p.count p.t accumulate · terms_of p.primes p.count (2 * p.t) comb
        ≡ F n
    unfolding parts_of
    even_terms =
        subst
        (λ q. terms_of q.primes q.count q.t accumulate · terms_of q.primes q.count (2 * q.t) comb ≡ F n)
        (sym is)
        (even_factor n in_range_lem.0 (NatL.dvd_of_mod-eq-zero 2 even) (padded (list_to n (odd_prime_of n))) (k_of n)
        (entry_new n) (row-r n))

  module _ (odd : ¬ (n % 2 ≡ 0)) where
    pub odd_same : Due p.primes p.count p.t
    unfolding parts_of
    odd_same = subst (λ q. Due q.primes q.count q.t) (sym is) (due_odd n in_range_lem.0 in_range_lem.1 odd)

    pub odd_terms : n ≢ 1 → terms_of p.primes p.count p.t comb ≡ F n
    unfolding parts_of
    odd_terms ne =
        subst (λ q. terms_of q.primes q.count q.t comb ≡ F n) (sym is)
        (odd_factor n in_range_lem.0 (λ d. odd (NatL.mod-eq-zero_of_dvd 2 d)) ne (padded (list_to n (odd_prime_of n)))
        (k_of n) (entry_new n) (row-r n))
