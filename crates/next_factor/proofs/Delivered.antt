-- No request for F(n) is refused, once the index is good and there is room, where both limits are the largest: OVER is
-- never met, and the height is in range (crate `never_over`, Heights).
use Prim.Native.Nat.{ℕ, suc, ◌+◌, ◌-◌, ◌<◌, ◌≤◌}
use mathlib.Core.Path.{◌≡◌, refl, sym, ◌∙◌, ap}
use mathlib.Core.Bool.{true, false}
use mathlib.Core.List.{List, ◌++◌}
use native.Mathlib.Omega.{arith}
use native.Mathlib.Nat as NatL
use native.Mathlib.Decide.{ℕ_discrete}
use native.Mathlib.Numerals.{add-one}
use lib.Dec.{eqb}
use lib.IntN.{ℤ, pos, nat_abs}
use lib.ListN.{length, take, drop, get_or, length-append, length-drop, get_or-append, get_or-replicate}
use lib.Seq.{take_at, get_or-append-add, get_or-drop}
use mir.Syntax.{w64}
use mir.Val.{SFits}
use mir.Facts.{to_z-of_z}
use Rattle.definitions.specs.Codes.{DONE}
use Rattle.definitions.specs.Integers.{0ℤ}
use Rattle.definitions.specs.Series.{firsts}
use Rattle.definitions.specs.Numbers.{r_of, m_of, phi, k_of}
use Rattle.definitions.specs.Polynomials.{F, degree, polynomial}
use Rattle.definitions.specs.Steps.{entries, largest}
use Rattle.definitions.specs.Requests.{known_kind, good_index, divisors_due, over_among}
use Rattle.definitions.specs.Requests.{written, zeros}
use Rattle.definitions.specs.Answer.{coefficients, height, gain}
use Rattle.numbers.specs.Apart.{m-divides, m-above}
use Rattle.numbers.specs.Phi.{phi-le}
use Rattle.numbers.specs.PhiPrime.{prime_phi}
use Rattle.step_laws.specs.Firsts.{length-firsts, get_or-firsts, is_firsts}
use Rattle.step_laws.specs.Machine.{seen}
use Rattle.step_laws.specs.Tests.{by_order}
use Rattle.cyclotomic.specs.Degrees.{monic_F}
use Rattle.cyclotomic.specs.Gain.{gains, gain_prime, gain_composite}
use Rattle.answers.specs.declared.Answer.{Answer}
use Rattle.answers.specs.Polynomial.{answered, answer, left, leaves}
use Rattle.index.proofs.Laws.{index_good}
use Rattle.never_over.specs.Promised.{promised_at}
use Rattle.never_over.proofs.Heights as Heights
use Rattle.never_over.proofs.Delivered as Deliveries
use Rattle.next_factor.specs.Taking.{First}
use Rattle.next_factor.specs.Times.{factor}

-- the gain is no negative number, and small
pub gain-whole : (n : ℕ) → good_index n ≡ true → (k : ℕ) × (gain 1 n ≡ pos k) × (k ≤ 65535)
gain-whole n good = go (ℕ_discrete n 1)
  where
    above : 0 < n
    above = (index_good n good).0

    prime_or-not : 1 < n → Dec (phi (m_of n) + 1 ≡ m_of n) → (k : ℕ) × (gain 1 n ≡ pos k) × (k ≤ 65535)
    prime_or-not l (yes e) = (
      m_of n,
      gain_prime n above ((prime_phi (m_of n) (m-above n l)).0 e),
      NatL.le_trans (NatL.le_of_dvd above (m-divides n)) (index_good n good).1,
    )
    prime_or-not l (no u) =
        (1, gain_composite n l (λ P. u ((prime_phi (m_of n) (m-above n l)).1 P)), omega arith)

    go : Dec (n ≡ 1) → (k : ℕ) × (gain 1 n ≡ pos k) × (k ≤ 65535)
    go (yes e) = (0, ap (gain 1) e ∙ gains.F_at_one, omega arith)
    go (no u) = prime_or-not (omega (arith, above)) (ℕ_discrete (phi (m_of n) + 1) (m_of n))

module _ (n : ℕ) (good : good_index n ≡ true) where
  pub never : over_among largest 1 (r_of n) (divisors_due (r_of n)) ≡ false
  never = Heights.never n (index_good n good).0 (index_good n good).1 1

  pub height_fits : height 1 n ≤ largest
  height_fits = Heights.height_fits n (index_good n good).0 (index_good n good).1 1

  pub height-promised : 1 ≤ promised_at true (k_of n) (r_of n) → height 1 n ≤ promised_at true (k_of n) (r_of n)
  height-promised = Heights.height-promised n (index_good n good).0 (index_good n good).1 1

  -- the gain's magnitude, as the machine reads it
  pub seen-gain : {v : ℤ} {g : ℕ} → v ≡ gain 1 n → g ≡ nat_abs (seen v) → pos g ≡ gain 1 n
  seen-gain e read =
      let (k, whole, small) = gain-whole n good in
      let fits : SFits w64 (pos k) = record { sfits = omega arith } in
      ap pos (read ∙ ap (λ x. nat_abs (seen x)) (e ∙ whole) ∙ ap nat_abs (to_z-of_z fits)) ∙ sym whole

  module _ (l : List ℤ) (room : phi n < length l) where
    its_answer : answer 1 n (pos largest) (pos largest) (length l) ≡ answered 1 n DONE
    unfolding known_kind degree
    its_answer = Deliveries.answer_delivered 1 n refl good (length l) room

    its_leaves : leaves 1 n (pos largest) (pos largest) l ≡ written (coefficients 1 n) l
    unfolding known_kind degree
    its_leaves = Deliveries.leaves_delivered 1 n refl good l room

    factor-length : length (coefficients 1 n) ≡ suc (phi n)
    unfolding coefficients degree
    factor-length = length-firsts (suc (degree 1 n)) (polynomial 1 n)

    pub told_small : {a : Answer} → a ≡ answer 1 n (pos largest) (pos largest) (length l) → a.degree ≤ 65535
    unfolding answered degree
    told_small e =
        rw (ap (λ x. x.degree) (e ∙ its_answer)) (NatL.le_trans (phi-le n) (index_good n good).1)

    told-gain : {a : Answer} {g : ℕ} → a ≡ answered 1 n DONE → g ≡ nat_abs (seen a.gain) → pos g ≡ gain 1 n
    unfolding answered
    told-gain e = seen-gain (ap (λ x. x.gain) e)

    pub made_is :
        {a : Answer} {m : List ℤ} → a ≡ answer 1 n (pos largest) (pos largest) (length l)
        → m ≡ leaves 1 n (pos largest) (pos largest) l
        → (a.degree + 1 ≡ suc (phi n)) × (take (suc (phi n)) m ≡ factor n)
    unfolding answered written degree coefficients polynomial
    made_is is left = (
      ap (λ x. x.degree + 1) (is ∙ its_answer) ∙ add-one (phi n),
      ap (take (suc (phi n))) (left ∙ its_leaves)
          ∙ take_at (coefficients 1 n) (drop (length (coefficients 1 n)) l) (suc (phi n)) factor-length,
    )

    -- F(n) over zeros is F(n) with zeros after it
    laid : l ≡ zeros (length l) → written (coefficients 1 n) l ≡ firsts (length l) (F n)
    unfolding written entries zeros coefficients polynomial degree
    laid none =
        is_firsts (length l) (F n) (written (coefficients 1 n) l) size
        (λ k b. by_order k (suc (phi n))
        (λ c. get_or-append (coefficients 1 n) rest 0ℤ k (omega (arith, factor-length))
        ∙ get_or-firsts (suc (phi n)) (F n) k c)
        (λ c. let at : length (coefficients 1 n) + (k - suc (phi n)) ≡ k = omega (arith, factor-length) in
        ap (λ x. get_or (coefficients 1 n ++ rest) x 0ℤ) (sym at)
        ∙ get_or-append-add (coefficients 1 n) rest (k - suc (phi n)) 0ℤ
        ∙ get_or-drop (length (coefficients 1 n)) l (k - suc (phi n)) 0ℤ ∙ ap (λ x. get_or l x 0ℤ) at
        ∙ ap (λ x. get_or x k 0ℤ) none ∙ get_or-replicate (length l) k 0ℤ 0ℤ b
        ∙ sym ((monic_F n (index_good n good).0).above k c)))
      where
        rest : List ℤ
        rest = drop (length (coefficients 1 n)) l

        size : length (written (coefficients 1 n) l) ≡ length l
        size =
            length-append (coefficients 1 n) rest
            ∙ omega (arith, factor-length, length-drop (length (coefficients 1 n)) l)

    pub first-is :
        {a : Answer} {m : List ℤ} {g : ℕ} → l ≡ zeros (length l)
        → a ≡ answer 1 n (pos largest) (pos largest) (length l)
        → m ≡ leaves 1 n (pos largest) (pos largest) l → g ≡ nat_abs (seen a.gain)
        → First n l m
        (record {
          turned = eqb n 1;
          have = a.degree + 1;
          height = a.height;
          peak = a.peak;
          gain = g;
        })
    unfolding answered degree
    first-is {a} {m} {g} none is left read =
        let e = is ∙ its_answer in
        record {
          turned = refl;
          leaves = left ∙ its_leaves ∙ laid none;
          have = ap (λ x. x.degree + 1) e ∙ add-one (phi n);
          height = ap (λ x. x.height) e;
          peak = ap (λ x. x.peak) e;
          gain = told-gain e read;
        }
