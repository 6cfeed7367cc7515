-- The theorems between the requests: a cascade of one index is the plain request of kind 1 at the largest working
-- limit, but for the additions (`one_index`); the gain told is the product of the factors' gains (`gain_is_product`);
-- and lists that differ in their order alone are answered alike, and refused alike but for OVER (`same_refusals`,
-- `any_order`, `done_any_order`). What a code and an answer are told by, of the one index or of the two lists, is
-- compared first; the requests then go by that.
use Prim.Native.Nat.{ℕ, suc, ◌+◌, ◌<◌, ◌≤◌, max}
use mathlib.Core.Path.{◌≡◌, refl, sym, ◌∙◌, ap, ap₂}
use mathlib.Core.Bool.{Bool, true, false, cond, not, ◌&&◌, ◌||◌, or-false, and_assoc, and_comm}
use mathlib.Core.Logic.{◌≢◌}
use mathlib.Core.List.{List, [], ◌∷◌}
use native.Mathlib.Omega.{arith}
use borrow.Author.Tests.{le-ltb, lt-leb}
use lib.ListN.{length}
use lib.Dec.{eqb, ltb, leb}
use lib.IntN.{ℤ, pos}
use Rattle.definitions.specs.Codes.{DONE, INDEX, LIMIT, SHORT, OVER, LIST}
use Rattle.definitions.specs.Integers.{◌⊗◌, 1ℤ}
use Rattle.definitions.specs.Series.{◌·◌, firsts}
use Rattle.definitions.specs.Numbers.{phi}
use Rattle.definitions.specs.Polynomials.{F, polynomial, degree}
use Rattle.definitions.specs.Steps.{largest, below_one}
use Rattle.definitions.specs.KeptHalf.{product_of, sum_of}
use Rattle.definitions.specs.Requests.{known_kind, good_index}
use Rattle.definitions.specs.Answer.{height, peak, gain_of, gain}
use Rattle.definitions.specs.Cascades.{product, total_degree, product_coefficients, longest, all_good}
use Rattle.definitions.specs.Cascades.{firsts_over, cascade_over}
use Rattle.series.specs.Laws.{·_left_comm}
use Rattle.series.specs.AtOne.{AtOne, at_one-constant, at_one-mul, only}
use Rattle.numbers.specs.Tests.{test_true, test_and}
use Rattle.numbers.specs.Phi.{phi-le}
use Rattle.step_laws.specs.Tests.{by_test}
use Rattle.step_laws.specs.WorkingLimit.{no_limit}
use Rattle.cyclotomic.specs.Gain.{gain_at_one}
use Rattle.answers.proofs.Told.{uncounted}
use Rattle.answers.specs.Cascade as Cascade
use Rattle.answers.specs.Polynomial as Polynomial
use Rattle.index.proofs.Laws.{index_good}
use Rattle.next_factor.proofs.Delivered.{never}
use Rattle.cascade.specs.Reordered.{Reordered, same, swap, behind, after}
use Rattle.cascade.proofs.Lists.{gain_of-product, over_by_firsts}
use Rattle.cascade.proofs.OneFactor.{one-degree, one-coefficients, one_fine}

-- ---- one index
one-not-over : (n : ℕ) → good_index n ≡ true → cascade_over (n ∷ []) ≡ false
unfolding firsts_over all_good
one-not-over n good = over_by_firsts (n ∷ []) (rw good) ∙ rw (one_fine n good)

module _ (n : ℕ) (h : ℤ) (scratch : ℕ) (enough : phi n < scratch) where
  -- where the index is good no test of the list's own holds, and neither request is OVER
  good_code : (room : ℕ) → good_index n ≡ true
      → Cascade.code (n ∷ []) h room scratch ≡ Polynomial.code 1 n h (pos largest) room
  unfolding Cascade.code Polynomial.code known_kind all_good height longest degree
  good_code room good =
      let short : phi n ≤ 65535 = omega (arith, phi-le n, index_good n good) in
      rw (good, no_limit, or-false (below_one h), one-degree n, le-ltb 65535 (phi n) short)
      (rw (lt-leb scratch (max (phi n) 0) (omega arith), or-false (leb room (phi n)))
      (rw (one-not-over n good, never n good, one-coefficients n)))

  same_code : (room : ℕ) → Cascade.code (n ∷ []) h room scratch ≡ Polynomial.code 1 n h (pos largest) room
  same_code room = by_test (good_index n) (good_code room) bad_code
    where
      bad_code : good_index n ≡ false → Cascade.code (n ∷ []) h room scratch ≡ Polynomial.code 1 n h (pos largest) room
      bad_code bad = unfold Cascade.code Polynomial.code known_kind all_good in rw bad

  same_answered : (c : ℕ) → Cascade.answered (n ∷ []) c ≡ uncounted (Polynomial.answered 1 n c)
  unfolding Cascade.answered Polynomial.answered uncounted height peak gain
  same_answered c = rw (one-degree n, one-coefficients n)

  same_left : (c : ℕ) (l : List ℤ) → Cascade.left (n ∷ []) c l ≡ Polynomial.left 1 n c l
  unfolding Cascade.left Polynomial.left
  same_left c l = rw (one-degree n, one-coefficients n)

  -- a cascade of one index, its scratch long enough for F(n), is the plain request for F(n) at the largest working
  -- limit, whatever the index; the additions alone are not told
  pub one_index : (l : List ℤ)
      → (Cascade.answer (n ∷ []) h (length l) scratch ≡ uncounted (Polynomial.answer 1 n h (pos largest) (length l)))
      × (Cascade.leaves (n ∷ []) h l scratch ≡ Polynomial.leaves 1 n h (pos largest) l)
  unfolding Cascade.answer Polynomial.answer Cascade.leaves Polynomial.leaves
  one_index l = (
    ap (Cascade.answered (n ∷ [])) (same_code (length l)) ∙ same_answered _,
    ap (λ c. Cascade.left (n ∷ []) c l) (same_code (length l)) ∙ same_left _ l,
  )

-- ---- the gain is the product of the gains
unfoldable pub product_of_gains : List ℕ → ℤ
product_of_gains [] = 1ℤ
product_of_gains (n ∷ ns) = gain 1 n ⊗ product_of_gains ns

gains_at_one : (ns : List ℕ) → all_good ns ≡ true → AtOne (product ns) (product_of_gains ns)
unfolding product product_of product_of_gains all_good polynomial
gains_at_one [] good = at_one-constant 1ℤ
gains_at_one (n ∷ ns) good =
    let (this, rest) = (test_and (test_true (good_index n)) (test_true (all_good ns))).shows good in
    at_one-mul (F n) (product ns) (gain 1 n) (product_of_gains ns) (gain_at_one 1 n (index_good n this).0)
    (gains_at_one ns rest)

pub gain_is_product : (ns : List ℕ) → all_good ns ≡ true → gain_of (product_coefficients ns) ≡ product_of_gains ns
gain_is_product ns good =
    only (product ns) (gain_of (product_coefficients ns)) (product_of_gains ns) (gain_of-product ns good)
    (gains_at_one ns good)

-- ---- the order of a list: what is the same of two lists that differ in nothing else
record Alike (ns ms : List ℕ) : Type 0 where
  many : length ns ≡ length ms
  good : all_good ns ≡ all_good ms
  total : total_degree ns ≡ total_degree ms
  tallest : longest ns ≡ longest ms
  made : product ns ≡ product ms

alike : {ns ms : List ℕ} → Reordered ns ms → Alike ns ms
unfolding all_good total_degree sum_of longest product product_of
alike (same ns) = record { many = refl; good = refl; total = refl; tallest = refl; made = refl }
alike (swap a b ns) =
    record {
      many = refl;
      good = sym (and_assoc (good_index a) (good_index b) (all_good ns))
          ∙ ap (λ x. x && all_good ns) (and_comm (good_index a) (good_index b))
          ∙ and_assoc (good_index b) (good_index a) (all_good ns);
      total = omega arith;
      tallest = omega arith;
      made = ·_left_comm (F a) (F b) (product ns);
    }
alike (behind a r) =
    let s = alike r in
    record {
      many = ap suc s.many;
      good = ap (λ x. good_index a && x) s.good;
      total = ap (λ x. phi a + x) s.total;
      tallest = ap (max (phi a)) s.tallest;
      made = ap (λ f. F a · f) s.made;
    }
alike (after r s) =
    let p = alike r in
    let q = alike s in
    record {
      many = p.many ∙ q.many;
      good = p.good ∙ q.good;
      total = p.total ∙ q.total;
      tallest = p.tallest ∙ q.tallest;
      made = p.made ∙ q.made;
    }

-- ---- two codes that are not OVER: the tests in front of OVER and behind it are the same
in_front : (b : Bool) (c : ℕ) {x y : ℕ} → (x ≢ OVER → y ≢ OVER → x ≡ y) → cond b c x ≢ OVER → cond b c y ≢ OVER
    → cond b c x ≡ cond b c y
in_front true c f u v = refl
in_front false c f u v = f u v

neither_over : (a b : Bool) (x : ℕ) → cond a OVER x ≢ OVER → cond b OVER x ≢ OVER → cond a OVER x ≡ cond b OVER x
neither_over true b x u v = absurd (u refl)
neither_over false true x u v = absurd (v refl)
neither_over false false x u v = refl

module _ {ns ms : List ℕ} (r : Reordered ns ms) where
  same_coefficients : product_coefficients ns ≡ product_coefficients ms
  unfolding product_coefficients
  same_coefficients = ap₂ (λ d f. firsts (suc d) f) (alike r).total (alike r).made

  answered_alike : (c : ℕ) → Cascade.answered ns c ≡ Cascade.answered ms c
  unfolding Cascade.answered
  answered_alike c = rw ((alike r).total, same_coefficients)

  left_alike : (c : ℕ) (l : List ℤ) → Cascade.left ns c l ≡ Cascade.left ms c l
  unfolding Cascade.left
  left_alike c l = rw ((alike r).total, same_coefficients)

  -- every refusal but OVER is the same in both orders
  pub same_refusals : (h : ℤ) (room scratch : ℕ) → Cascade.code ns h room scratch ≢ OVER
      → Cascade.code ms h room scratch ≢ OVER → Cascade.code ns h room scratch ≡ Cascade.code ms h room scratch
  unfolding Cascade.code
  same_refusals h room scratch =
      rw ((alike r).many, (alike r).good, (alike r).total, (alike r).tallest, same_coefficients)
      (in_front (eqb (length ms) 0 || ltb 8 (length ms)) LIST
      (in_front (not (all_good ms)) INDEX
      (in_front (ltb 65535 (total_degree ms)) LIST
      (in_front (below_one h) LIMIT
      (in_front (leb room (total_degree ms) || leb scratch (longest ms)) SHORT
      (neither_over (cascade_over ns) (cascade_over ms) _))))))

  module _ (h : ℤ) (l s : List ℤ) where
    -- and where neither order gives OVER, all that is told and all that is left is the same
    pub any_order : Cascade.code ns h (length l) (length s) ≢ OVER → Cascade.code ms h (length l) (length s) ≢ OVER
        → (Cascade.answer ns h (length l) (length s) ≡ Cascade.answer ms h (length l) (length s))
        × (Cascade.leaves ns h l (length s) ≡ Cascade.leaves ms h l (length s))
        × (Cascade.scratches ns h (length l) s ≡ Cascade.scratches ms h (length l) s)
    unfolding Cascade.answer Cascade.leaves Cascade.scratches
    any_order u v =
        let e = same_refusals h (length l) (length s) u v in (
          ap (Cascade.answered ns) e ∙ answered_alike _,
          ap (λ c. Cascade.left ns c l) e ∙ left_alike _ l,
          ap (λ c. Cascade.scratched c s) e,
        )

    -- so two lists that are both delivered are delivered alike
    pub done_any_order : Cascade.code ns h (length l) (length s) ≡ DONE → Cascade.code ms h (length l) (length s) ≡ DONE
        → (Cascade.answer ns h (length l) (length s) ≡ Cascade.answer ms h (length l) (length s))
        × (Cascade.leaves ns h l (length s) ≡ Cascade.leaves ms h l (length s))
        × (Cascade.scratches ns h (length l) s ≡ Cascade.scratches ms h (length l) s)
    done_any_order d e = any_order (λ o. omega arith) (λ o. omega arith)
