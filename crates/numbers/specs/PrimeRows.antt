-- A row of different primes, and of odd ones in ascending order: what the product of the first few is, its phi, and
-- that phi outgrows the product of one prime fewer.
use Prim.Native.Nat.{ℕ, zero, suc, ◌+◌, ◌*◌, ◌-◌, ◌<◌, ◌≤◌, ◌∣◌}
use Rattle.std.specs.Prelude.{◌≡◌, List}
use Rattle.std.proofs.Math.Logic.{⊎_elim}
use Rattle.std.proofs.Math.Nat as NatL
use native.Mathlib.Omega.{arith}
use Rattle.std.proofs.Math.ListN.{get_or}
use Rattle.definitions.specs.Numbers.{row_to, phi}
use Rattle.numbers.specs.Primes.{Prime, prime_pos}
use Rattle.numbers.specs.Phi.{phi-times, phi-one}
use Rattle.numbers.specs.Apart.{OddSquarefree, odd_squarefree_one, odd_squarefree_times}

-- the first k are primes, and none divides the product of those before it
abbrev pub New : List ℕ → ℕ → Type 0
New l k = (i : ℕ) → i < k → Prime (get_or l i 0) × (¬ (get_or l i 0 ∣ row_to l i))

-- and each is above 2 and above the one before
pub record OddRow (l : List ℕ) (k : ℕ) : Type 0 where
  pub new : New l k
  pub odd : (i : ℕ) → i < k → 2 < get_or l i 0
  pub rising : (i : ℕ) → suc i < k → get_or l i 0 < get_or l (suc i) 0

module _ (l : List ℕ) where
  pub fewer : {k : ℕ} → New l (suc k) → New l k
  fewer h i b = h i (omega arith)

  pub last_pos : {k : ℕ} → New l (suc k) → 0 < get_or l k 0
  last_pos {k} h = prime_pos (h k (omega arith)).0

  pub row-pos : (k : ℕ) → New l k → 0 < row_to l k
  unfolding row_to
  row-pos zero h = omega arith
  row-pos (suc k) h = NatL.mul-pos (row-pos k (fewer h)) (last_pos h)

  -- no row of fewer primes has a larger product
  pub row-le : (k : ℕ) → New l k → (j : ℕ) → j ≤ k → row_to l j ≤ row_to l k
  unfolding row_to
  row-le zero h j b = let e : j ≡ 0 = omega arith in rw e (omega arith)
  row-le (suc k) h j b =
      ⊎_elim (λ e. rw e (omega arith))
      (λ low. NatL.le_trans (row-le k (fewer h) j (omega arith)) (NatL.le-mul_of_pos_right (row_to l k) (last_pos h)))
      (NatL.eq-or-lt_of_le b)

  pub row-phi : (k : ℕ) → New l (suc k) → phi (row_to l (suc k)) ≡ phi (row_to l k) * (get_or l k 0 - 1)
  unfolding row_to
  row-phi k h = let (P, fresh) = h k (omega arith) in phi-times (row_to l k) (get_or l k 0) P fresh

  pub odd_fewer : {k : ℕ} → OddRow l (suc k) → OddRow l k
  odd_fewer o =
      record {
        new = fewer o.new;
        odd = λ i b. o.odd i (omega arith);
        rising = λ i b. o.rising i (omega arith);
      }

  pub row_odd_squarefree : (k : ℕ) → OddRow l k → OddSquarefree (row_to l k)
  unfolding row_to
  row_odd_squarefree zero o = odd_squarefree_one
  row_odd_squarefree (suc k) o =
      let (P, fresh) = o.new k (omega arith) in
      odd_squarefree_times (row_to l k) (get_or l k 0) (row_odd_squarefree k (odd_fewer o)) P
      (λ e. above e (o.odd k (omega arith))) fresh
    where
      above : {p : ℕ} → p ≡ 2 → 2 < p → ⊥
      above e b = omega arith

  -- r / p + 1 ≤ phi(r), where p is the last
  pub phi_outgrows : (k : ℕ) → OddRow l (suc k) → row_to l k + 1 ≤ phi (row_to l (suc k))
  unfolding row_to
  phi_outgrows zero o =
      rw (row-phi zero o.new, phi-one) (omega (arith, o.odd 0 (omega arith)))
  phi_outgrows (suc k) o =
      let q : ℕ = get_or l k 0 in
      let p : ℕ = get_or l (suc k) 0 in
      let m : ℕ = row_to l k in
      let up : q ≤ p - 1 = omega (arith, o.rising k (omega arith)) in
      let less : (m + 1) * q ≤ phi (row_to l (suc k)) * (p - 1) =
      NatL.le_trans (NatL.mul-le-mul_right q (phi_outgrows k (odd_fewer o)))
      (NatL.mul-le-mul_left (phi (row_to l (suc k))) up) in
      let one : 0 < q = last_pos (fewer o.new) in
      rw (row-phi (suc k) o.new) (omega (arith, less, NatL.add-mul m 1 q, one))
