-- How much larger a factor can make a series. `Scales n b q`: whatever climbing weight the first n values of f are held
-- under, those of q f are held under b times that weight. Such bounds multiply with the factors and add up with sums.
-- So 1 and z^d scale by 1, a comb by 2, an accumulate of size d by its turns, n / d + 1, which is the growth law of
-- crate `step_laws`, and an accumulate of size d with a comb of size t d, which is 1 + z^d + .. + z^((t-1) d), by t.
use Prim.Native.Nat.{ℕ, zero, suc, ◌+◌, ◌*◌, ◌-◌, ◌/◌, ◌<◌, ◌≤◌}
use Rattle.std.specs.Prelude.{◌≡◌, Bool, cond, [], ◌∷◌}
use Rattle.std.proofs.Math.Path.{refl, ap}
use Rattle.std.proofs.Common.{sym, ◌∙◌, one-mul, zero-mul, mul_comm, add-mul, suc-mul, mul-le-mul_left, mul-le-mul_right, le_trans, le-div_iff_mul-le, div-mul-le_self}
use Rattle.std.proofs.Math.Bool.{true, false}
use Rattle.std.proofs.Math.Nat.{mul_assoc}
use native.Mathlib.Omega.{arith}
use Rattle.std.proofs.Math.IntN.{nat_abs}
use Rattle.definitions.specs.Integers.{0ℤ, 1ℤ}
use Rattle.definitions.specs.Series.{Series, constant, 𝟙, ◌+ˢ◌, _ˢ, ◌·◌, z^}
use Rattle.definitions.specs.Numbers.{divides}
use Rattle.definitions.specs.Polynomials.{product_to}
use Rattle.definitions.specs.Steps.{comb, accumulate, stepped, accumulated}
use Rattle.definitions.specs.KeptHalf.{term_of}
use Rattle.integers.specs.Solver.{:1, ◌:+◌, ◌:*◌, :-, x, y, z}
use Rattle.series.specs.Laws.{one_·, ·_assoc, ringˢ, at_+ˢ, at__ˢ}
use Rattle.series.specs.Maps.{shift_below, shift_from, z^-add}
use Rattle.numbers.specs.Folds.{fold_to, fold-zero, fold-suc}
use Rattle.numbers.specs.Counts.{products}
use Rattle.step_laws.specs.Tests.{by_order}
use Rattle.step_laws.specs.Signed.{abs_⊖, abs_⊕}
use Rattle.step_laws.specs.Bound.{accumulated_bound, fewer_turns}
use Rattle.cyclotomic.specs.Terms.{inverse_terms, other}
use Rattle.cyclotomic.specs.Kept.{step-term}

-- below n, c times the magnitude of f is at most g
abbrev pub Under : ℕ → ℕ → (ℕ → ℕ) → Series → Type 0
Under n c g f = (i : ℕ) → i < n → nat_abs (f i) * c ≤ g i

abbrev pub Climbs : (ℕ → ℕ) → Type 0
Climbs g = (k i : ℕ) → k ≤ i → g k ≤ g i

pub record Scales (n b : ℕ) (q : Series) : Type 0 where
  pub scaled : (f : Series) (c : ℕ) (g : ℕ → ℕ) → 0 < c → Climbs g → Under n c g f → Under n c (λ i. b * g i) (q · f)

module _ (n : ℕ) where
  pub scales_one : Scales n 1 𝟙
  scales_one = record { scaled = λ f c g pos up h i l. rw (one_· f, one-mul (g i)) (h i l) }

  pub scales_more : (a b : ℕ) (q : Series) → a ≤ b → Scales n a q → Scales n b q
  scales_more a b q m s =
      record { scaled = λ f c g pos up h i l. le_trans (s.scaled f c g pos up h i l) (mul-le-mul_right (g i) m) }

  pub scales_mul : (a b : ℕ) (p q : Series) → Scales n a p → Scales n b q → Scales n (a * b) (p · q)
  scales_mul a b p q s t =
      record {
        scaled = λ f c g pos up h i l. rw (·_assoc p q f, mul_assoc a b (g i))
            (s.scaled (q · f) c (λ k. b * g k) pos (λ k m u. mul-le-mul_left b (up k m u)) (t.scaled f c g pos up h)
            i l);
      }

  pub scales_add : (a b : ℕ) (p q : Series) → Scales n a p → Scales n b q → Scales n (a + b) (p +ˢ q)
  scales_add a b p q s t =
      record {
        scaled = λ f c g pos up h i l.
            let v = nat_abs ((p · f) i) in
            let u = nat_abs ((q · f) i) in
            rw (
              ringˢ (p ∷ q ∷ f ∷ []) ((x :+ y) :* z) (x :* z :+ y :* z) refl,
              at_+ˢ (p · f) (q · f) i,
              add-mul a b (g i),
            )
            (le_trans (mul-le-mul_right c (abs_⊕ ((p · f) i) ((q · f) i)))
            (omega (arith, add-mul v u c, s.scaled f c g pos up h i l, t.scaled f c g pos up h i l)));
      }

  pub scales_neg : (b : ℕ) (q : Series) → Scales n b q → Scales n b (_ˢ q)
  scales_neg b q s =
      record {
        scaled = λ f c g pos up h i l.
            rw (ringˢ (q ∷ f ∷ []) (:- x :* y) (:- (x :* y)) refl, at__ˢ (q · f) i, abs_⊖ ((q · f) i))
            (s.scaled f c g pos up h i l);
      }

  pub scales_z^ : (d : ℕ) → Scales n 1 (z^ d)
  scales_z^ d =
      record {
        scaled = λ f c g pos up h i l. rw (one-mul (g i))
            (by_order i d (λ b. rw (shift_below d f i b, zero-mul c) (omega arith))
            (λ b. rw (shift_from d f i b) (le_trans (h (i - d) (omega arith)) (up (i - d) i (omega arith)))));
      }

  pub scales_comb : (d : ℕ) → Scales n 2 (term_of comb d)
  unfolding term_of
  scales_comb d = scales_add 1 1 𝟙 (_ˢ (z^ d)) scales_one (scales_neg 1 (z^ d) (scales_z^ d))

  -- the growth law, at the largest value that the weight lets through
  pub scales_accumulate : (d : ℕ) → 1 ≤ d → Scales n (n / d + 1) (term_of accumulate d)
  unfolding stepped
  scales_accumulate d one =
      record {
        scaled = λ f c g pos up h i l.
            let b = g i / c in
            let t = n / d + 1 in
            let grown : nat_abs (accumulated d f i) ≤ b * (i / d + 1) =
            accumulated_bound d b f one i
            (λ k m. (le-div_iff_mul-le {x = nat_abs (f k)} {y = g i} pos).1 (le_trans (h k (omega arith)) (up k i m))) in
            rw (sym (step-term accumulate d one f))
            (le_trans (mul-le-mul_right c (le_trans grown (mul-le-mul_left b (fewer_turns d n i one l))))
            (rw (mul_comm b t, mul_assoc t b c) (mul-le-mul_left t (div-mul-le_self (g i) c))));
      }

  -- (1 - z^(t d)) / (1 - z^d) for t = 1, 2, ..: one more power of z^d each time
  one_more : (d : ℕ) → 0 < d → (s : ℕ) → term_of comb (s + d) · term_of accumulate d
      ≡ 𝟙 +ˢ z^ d · (term_of comb s · term_of accumulate d)
  unfolding term_of other
  one_more d pos s =
      let every = term_of accumulate d in
      ap (λ q. (𝟙 +ˢ _ˢ q) · every) (sym (z^-add s d))
      ∙ ringˢ (z^ s ∷ z^ d ∷ every ∷ []) ((:1 :+ :- (x :* y)) :* z) ((:1 :+ :- y) :* z :+ y :* ((:1 :+ :- x) :* z)) refl
      ∙ ap (λ q. q +ˢ z^ d · (term_of comb s · every)) (inverse_terms accumulate d pos)

  pub scales_both : (d : ℕ) → 0 < d → (t : ℕ) → Scales n (suc t) (term_of comb (suc t * d) · term_of accumulate d)
  unfolding other
  scales_both d pos zero = rw (one-mul d, inverse_terms accumulate d pos) scales_one
  scales_both d pos (suc t) =
      let rest = term_of comb (suc t * d) · term_of accumulate d in
      rw (suc-mul (suc t) d, one_more d pos (suc t * d))
      (scales_more (1 + 1 * suc t) (suc (suc t)) (𝟙 +ˢ z^ d · rest) (omega arith)
      (scales_add 1 (1 * suc t) 𝟙 (z^ d · rest) scales_one
      (scales_mul 1 (suc t) (z^ d) rest (scales_z^ d) (scales_both d pos t))))

  -- the factors of a product
  pub scales_product : (b : ℕ → ℕ) (q : ℕ → Series) (m : ℕ) → ((d : ℕ) → 0 < d → d ≤ m → Scales n (b d) (q d))
      → Scales n (fold_to products b m) (product_to m q)
  unfolding product_to
  scales_product b q zero s = rw (fold-zero products b) scales_one
  scales_product b q (suc m) s =
      rw (fold-suc products b m)
      (scales_mul (fold_to products b m) (b (suc m)) (product_to m q) (q (suc m))
      (scales_product b q m (λ d l u. s d l (omega arith))) (s (suc m) (omega arith) (omega arith)))

  -- the start, and an accumulate on it, have no values but 0 and 1
  pub under_one : Under n 1 (λ i. 1) 𝟙
  unfolding constant
  under_one zero l = omega arith
  under_one (suc i) l = omega arith

  pub under_accumulate : (d : ℕ) → Under n 1 (λ i. 1) (term_of accumulate d)
  unfolding term_of
  under_accumulate d i l = go (divides d i)
    where
      go : (b : Bool) → nat_abs (cond b 1ℤ 0ℤ) * 1 ≤ 1
      go true = omega arith
      go false = omega arith
