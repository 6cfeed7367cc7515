-- The first half of F(n) from the kept half for r: as many entries as it has (`half-long`), the kept half after all
-- steps (`steps_left`), with the signs of an even index that of m (`signed_is`), and with z^t for z that of n
-- (`half_is`). Its height and its additions are those of F(n) (`height_is`, `added`).
use Prim.Native.Nat.{ℕ, suc, ◌+◌, ◌*◌, ◌%◌, ◌≤◌, ◌<◌}
use mathlib.Core.Path.{◌≡◌, refl, sym, ap, ap₂, ◌∙◌}
use mathlib.Core.Bool.{Bool, true, false, true≢false, cond}
use mathlib.Core.List.{List, ◌++◌}
use mathlib.Core.Logic.{◌≢◌}
use native.Mathlib.Omega.{arith}
use native.Mathlib.Nat as NatL
use native.Mathlib.Numerals.{add-one}
use lib.ListN.{length, take, get_or-append}
use lib.Seq.{get_or-take, length-take-le}
use lib.Dec.{eqb}
use lib.IntN.{ℤ}
use Rattle.definitions.specs.Integers.{0ℤ}
use Rattle.definitions.specs.Series.{Series, firsts, alternate, spread}
use Rattle.definitions.specs.Steps.{entries, largest}
use Rattle.definitions.specs.Numbers.{divides, r_of, m_of}
use Rattle.definitions.specs.KeptHalf.{half_degree}
use Rattle.definitions.specs.Polynomials.{polynomial, degree}
use Rattle.definitions.specs.Requests.{good_index, divisors_due}
use Rattle.definitions.specs.Answer.{coefficients, height, height_of, additions_for}
use Rattle.definitions.specs.Halves.{half_of, first_half}
use Rattle.numbers.specs.Apart.{OddSquarefree, r_odd_squarefree, t_pos as of-t}
use Rattle.numbers.specs.Below.{additions-all}
use Rattle.numbers.specs.Phi.{phi_even}
use Rattle.numbers.specs.PhiApart.{phi-m}
use Rattle.step_laws.specs.Firsts.{length-firsts, get_or-firsts, firsts-entries, firsts_same, is_firsts}
use Rattle.cyclotomic.specs.Apart.{taken_apart_lem}
use Rattle.cyclotomic.specs.Degrees.{degree-apart}
use Rattle.cyclotomic.specs.Kept.{kept-all}
use Rattle.cyclotomic.specs.Heights.{told-half}
use Rattle.never_over.proofs.Heights.{never, coefficient_fits}
use Rattle.index.specs.declared.Parts.{Parts}
use Rattle.index.specs.Parts.{parts_of}
use Rattle.index.proofs.Laws.{index_good, parts_t, r_small}
use Rattle.std.specs.Prelude.{Result, Ok, Err, IsOk}
use Rattle.kept_half.specs.Halves.{KeptHalfIs, RunTaken, Over}
use Rattle.kept_half.specs.declared.Ran.{Ran}
use Rattle.shapes.specs.Shapes.{InRange}
use Rattle.squarefree_from_half.proofs.Growing.{front_entry, front_length, alternated}
use Rattle.squarefree_from_half.proofs.Even.{even_F}
use Rattle.whole_from_half.proofs.Laying.{spread-front}

module _ (n : ℕ) (a : Parts) (parts : a ≡ parts_of n) (good : good_index n ≡ true) (above : r_of n ≢ 1) where
  pos : 0 < n
  pos = (index_good n good).0

  O : OddSquarefree (r_of n)
  O = r_odd_squarefree n

  abbrev pub D : ℕ
  D = half_degree 1 (r_of n)

  pub t_some : 1 ≤ a.t
  t_some = rw (parts_t n a parts) (of-t n pos)

  -- phi(r) is even
  degree-r : degree 1 (r_of n) ≡ 2 * D
  unfolding half_degree degree
  degree-r =
      let two : r_of n ≢ 2 = λ e. O.odd (rw e (NatL.dvd_refl 2)) in
      omega (arith, phi_even (r_of n) (omega (arith, O.pos, above, two)))

  of_m : degree 1 (m_of n) ≡ degree 1 (r_of n)
  unfolding degree
  of_m = phi-m n

  pub half-long : half_of (degree 1 n + 1) ≡ D * a.t + 1
  half-long = omega (arith, whole)
    where
      whole : degree 1 n ≡ 2 * (D * a.t)
      whole =
          degree-apart 1 n pos
          ∙ ap₂ ◌*◌ (of_m ∙ degree-r) (sym (parts_t n a parts)) ∙ NatL.mul_assoc 2 D a.t

  -- the steps, none of which is OVER
  pub steps-taken : (m : List ℤ) (h : Result Ran Over) → KeptHalfIs largest 1 (r_of n) (divisors_due (r_of n)) m h → IsOk h
  steps-taken m (Ok ran) made = refl
  steps-taken m (Err e) made =
      absurd (true≢false (sym made.ran.over ∙ never n pos (index_good n good).1 1))

  module _ {m : List ℤ} {h : Ran} (made : RunTaken largest 1 (r_of n) (divisors_due (r_of n)) m h) where
    pub steps_left : m ≡ firsts (D + 1) (polynomial 1 (r_of n))
    unfolding divisors_due
    steps_left = made.half ∙ kept-all 1 (r_of n) O above

    pub added : h.additions ≡ additions_for 1 n
    unfolding additions_for divisors_due
    added = made.additions ∙ additions-all 1 (r_of n)

    pub height_is : height_of m ≡ height 1 n
    height_is = ap height_of steps_left ∙ sym (told-half 1 n pos above).0

  -- each of its entries can be negated
  pub lower_within : (m : List ℤ) → m ≡ firsts (D + 1) (polynomial 1 (r_of n)) → InRange (length m) m
  lower_within m e i l =
      let below : i < D + 1 = omega (arith, front_length (D + 1) (polynomial 1 (r_of n)) m e) in
      rw (front_entry (D + 1) (polynomial 1 (r_of n)) m e i below)
      (coefficient_fits (r_of n) O.pos (r_small n good) 1 i)

  -- the signs of an even index
  pub signed_is : (m x : List ℤ) → m ≡ firsts (D + 1) (polynomial 1 (r_of n))
      → x ≡ firsts (length m) (cond (eqb (n % 2) 0) (alternate (entries m)) (entries m))
      → x ≡ firsts (D + 1) (polynomial 1 (m_of n))
  unfolding m_of divides
  signed_is m x em = go (eqb (n % 2) 0)
    where
      go : (b : Bool) → x ≡ firsts (length m) (cond b (alternate (entries m)) (entries m))
          → x ≡ firsts (D + 1) (polynomial 1 (cond b (2 * r_of n) (r_of n)))
      go true ex =
          alternated (D + 1) (polynomial 1 (r_of n)) m x em ex ∙ ap (firsts (D + 1)) (even_F 1 (r_of n) refl O above)
      go false ex = ex ∙ firsts-entries m ∙ em

  -- z^t for z, in front of whatever stands behind
  pub half_is : (x rest y : List ℤ) → x ≡ firsts (D + 1) (polynomial 1 (m_of n)) → length (x ++ rest) ≡ D * a.t + 1
      → y ≡ firsts (length (x ++ rest)) (spread a.t (entries (x ++ rest))) → y ≡ first_half (coefficients 1 n)
  unfolding entries first_half coefficients
  half_is x rest y ex long ey =
      ey ∙ ap (λ (k : ℕ). firsts k (spread a.t (entries (x ++ rest)))) long
      ∙ firsts_same (D * a.t + 1) _ (polynomial 1 n)
      (λ k l. spread-front a.t D t_some (entries (x ++ rest)) (polynomial 1 (m_of n)) front k l
      ∙ ap (λ (f : Series). f k) (ap (λ (t : ℕ). spread t (polynomial 1 (m_of n))) (parts_t n a parts) ∙ sym
      (taken_apart_lem 1 n pos)))
      ∙ sym first
    where
      front : (i : ℕ) → i < D + 1 → entries (x ++ rest) i ≡ polynomial 1 (m_of n) i
      front i l =
          get_or-append x rest 0ℤ i (omega (arith, front_length (D + 1) (polynomial 1 (m_of n)) x ex))
          ∙ front_entry (D + 1) (polynomial 1 (m_of n)) x ex i l

      first : first_half (coefficients 1 n) ≡ firsts (D * a.t + 1) (polynomial 1 n)
      first =
          let count = suc (degree 1 n) in
          let short : half_of (length (firsts count (polynomial 1 n))) ≡ D * a.t + 1 =
          ap half_of (length-firsts count (polynomial 1 n) ∙ sym (add-one (degree 1 n))) ∙ half-long in
          let inside : D * a.t + 1 ≤ count = omega (arith, half-long) in
          ap (λ (k : ℕ). take k (firsts count (polynomial 1 n))) short
          ∙ is_firsts (D * a.t + 1) (polynomial 1 n) _
          (length-take-le (D * a.t + 1) (firsts count (polynomial 1 n)) (rw length-firsts inside))
          (λ k l. get_or-take (D * a.t + 1) (firsts count (polynomial 1 n)) k 0ℤ l
          ∙ get_or-firsts count (polynomial 1 n) k (omega arith))
