-- A product by rows: the terms of f taken so far, with z^p for z, times g; one term more; and the end, where f has no
-- more terms or the next would stand past the slice.
use Prim.Native.Nat.{ℕ, ◌+◌, ◌*◌, ◌/◌, ◌%◌, ◌<◌, ◌≤◌, min}
use mathlib.Core.Path.{◌≡◌, refl, sym, ◌∙◌, ap, ap₂, fun_ext}
use mathlib.Core.Logic.{◌⊎◌, inl, inr}
use mathlib.Core.List.{List, [], ◌∷◌}
use native.Mathlib.Nat as NatL
use native.Mathlib.Omega.{arith}
use native.Mathlib.Decide.{ℕ_discrete}
use Rattle.std.specs.Int.{div_ceil}
use Rattle.std.proofs.lemmas.Grind.{div_ceil_times}
use lib.ListN.{length, take, length-take, get_or, get_or-eq_default, replicate, length-replicate, get_or-replicate}
use lib.Seq.{get_or-take, take_all}
use lib.IntN.{ℤ}
use Rattle.definitions.specs.Integers.{◌⊕◌, ◌⊗◌, 0ℤ}
use Rattle.definitions.specs.Series.{Series, constant, 𝟘, ◌+ˢ◌, ◌·◌, z^, spread}
use Rattle.definitions.specs.Steps.{entries}
use Rattle.definitions.specs.Requests.{zeros}
use Rattle.integers.specs.Solver.{:0, :1, ◌:+◌, ◌:*◌, x, y, z, w}
use Rattle.integers.specs.Whole.{ringℤ}
use Rattle.series.specs.Laws.{constant-mul, at_+ˢ, at_𝟘, ·_comm, agree_mul, ringˢ}
use Rattle.series.specs.Maps.{at_z^, off_z^, spread-add, spread-mul, spread-constant, spread-z^, spread_on, spread_off}
use Rattle.step_laws.specs.Tests.{by_order}
use Rattle.wrapped_sums.specs.Wrapped.{wrap}
use Rattle.wrapped_sums.specs.Residues.{like_⊕}
use Rattle.spread_products.specs.Rows.{Added, Made}

-- the first i terms of f
abbrev pub terms : List ℤ → ℕ → Series
terms f i = entries (take i f)

-- the product has got to the term i of f
pub record ProductTo (p : ℕ) (f g m : List ℤ) (i : ℕ) : Type 0 where
  pub made : Made (spread p (terms f i) · entries g) m

term_below : (f : List ℤ) (i k : ℕ) → k < i → terms f i k ≡ entries f k
unfolding entries
term_below f i k b = get_or-take i f k 0ℤ b

term_past : (f : List ℤ) (i k : ℕ) → i ≤ k → terms f i k ≡ 0ℤ
unfolding entries
term_past f i k b = get_or-eq_default (take i f) 0ℤ (omega (arith, length-take i f))

-- one term more
next-term : (f : List ℤ) (i : ℕ) → terms f (i + 1) ≡ terms f i +ˢ constant (entries f i) · z^ i
next-term f i = fun_ext (λ k. sym (at_+ˢ (terms f i) _ k ∙ ap (λ v. terms f i k ⊕ v) (constant-mul _ (z^ i) k) ∙ at k))
  where
    at : (k : ℕ) → terms f i k ⊕ entries f i ⊗ z^ i k ≡ terms f (i + 1) k
    at k =
        by_order k i
        (λ low. ap₂ (λ u v. u ⊕ entries f i ⊗ v) (term_below f i k low) (off_z^ i k (λ e. omega arith))
        ∙ ringℤ (entries f k ∷ entries f i ∷ []) (x :+ y :* :0) x refl
        ∙ sym (term_below f (i + 1) k (omega arith)))
        (λ high. by_order i k
        (λ past. ap₂ (λ u v. u ⊕ entries f i ⊗ v) (term_past f i k high) (off_z^ i k (λ e. omega arith))
        ∙ ringℤ (entries f i ∷ []) (:0 :+ x :* :0) :0 refl
        ∙ sym (term_past f (i + 1) k (omega arith)))
        (λ same.
        let e : k ≡ i = omega arith in
        ap₂ (λ u v. u ⊕ entries f i ⊗ v) (term_past f i k high) (ap (z^ i) e ∙ at_z^ i)
        ∙ ringℤ (entries f i ∷ []) (:0 :+ x :* :1) x refl
        ∙ ap (entries f) (sym e)
        ∙ sym (term_below f (i + 1) k (omega arith))))

module _ (p : ℕ) (one : 0 < p) (f g : List ℤ) where
  next-product : (i : ℕ)
      → spread p (terms f i) · entries g +ˢ constant (entries f i) · (z^ (i * p) · entries g)
      ≡ spread p (terms f (i + 1)) · entries g
  next-product i =
      ringˢ (spread p (terms f i) ∷ entries g ∷ constant (entries f i) ∷ z^ (i * p) ∷ [])
      (x :* y :+ z :* (w :* y)) ((x :+ z :* w) :* y) refl
      ∙ ap (λ s. s · entries g)
      (sym
      (ap (spread p) (next-term f i)
      ∙ spread-add p one (terms f i) _
      ∙ ap (λ s. spread p (terms f i) +ˢ s)
      (spread-mul p one _ (z^ i) ∙ ap₂ ◌·◌ (spread-constant p one (entries f i)) (spread-z^ p one i))))

  none_yet : spread p (terms f 0) · entries g ≡ 𝟘
  none_yet =
      ap (λ s. spread p s · entries g) (fun_ext (λ k. term_past f 0 k (omega arith) ∙ sym (at_𝟘 k)))
      ∙ ap (λ s. s · entries g) (spread-constant p one 0ℤ)
      ∙ ringˢ (entries g ∷ []) (:0 :* x) :0 refl

  pub product-start : (n : ℕ) {m : List ℤ} → m ≡ zeros n → ProductTo p f g m 0
  unfolding zeros entries
  product-start n e =
      rw e
      (record {
        made =
            record {
              fit = λ i. rw (zero_at i) (record { sfits = omega arith });
              like = λ i b. ap wrap (zero_at i ∙ sym (ap (λ s. s i) none_yet ∙ at_𝟘 i));
            };
      })
    where
      zero_at : (i : ℕ) → get_or (replicate n 0ℤ) i 0ℤ ≡ 0ℤ
      zero_at i =
          by_order i n (get_or-replicate n i 0ℤ 0ℤ)
          (λ past. get_or-eq_default (replicate n 0ℤ) 0ℤ (omega (arith, length-replicate n 0ℤ)))

  pub product-next : {m q : List ℤ} {i at : ℕ} {c : ℤ} → ProductTo p f g m i → at ≡ i * p → c ≡ entries f i
      → Added (constant c · (z^ at · entries g)) m q → ProductTo p f g q (i + 1)
  product-next {m} {q} {i} {at} {c} t e is a =
      record {
        made =
            record {
              fit = a.fit t.made.fit;
              like = λ k b.
                  let d : k < length m = omega (arith, a.len) in
                  a.like k d
                  ∙ ap wrap (at_+ˢ (entries m) _ k)
                  ∙ like_⊕ (entries m k) _ _ _ (t.made.like k d) refl
                  ∙ ap wrap (sym (at_+ˢ (spread p (terms f i) · entries g) _ k))
                  ∙ ap₂ (λ v j. wrap ((spread p (terms f i) · entries g +ˢ constant v · (z^ j · entries g)) k)) is e
                  ∙ ap (λ s. wrap (s k)) (next-product i);
            };
      }

  -- below i p the first i terms are all that counts
  few : (i k : ℕ) → (length f ≤ i) ⊎ (k < i * p) → spread p (terms f i) k ≡ spread p (entries f) k
  few i k enough = go (ℕ_discrete (k % p) 0)
    where
      here : (length f ≤ i) ⊎ (k < i * p) → terms f i (k / p) ≡ entries f (k / p)
      here (inl short) = ap (λ l. entries l (k / p)) (take_all i f short)
      here (inr low) = term_below f i (k / p) ((NatL.div-lt_iff_lt-mul {k = p} {x = k} {y = i} one).1 low)

      go : Dec (k % p ≡ 0) → spread p (terms f i) k ≡ spread p (entries f) k
      go (yes e) = spread_on p k (terms f i) e ∙ here enough ∙ sym (spread_on p k (entries f) e)
      go (no e) = spread_off p k (terms f i) e ∙ sym (spread_off p k (entries f) e)

  pub product_ends : {m : List ℤ} {i : ℕ} → ProductTo p f g m i → (length f ≤ i) ⊎ (length m ≤ i * p)
      → Made (spread p (entries f) · entries g) m
  product_ends {m} {i} t enough =
      record {
        fit = t.made.fit;
        like = λ k b.
            t.made.like k b
            ∙ ap wrap (ap (λ s. s k) (·_comm (spread p (terms f i)) (entries g))
            ∙ agree_mul k (entries g) (spread p (terms f i)) (spread p (entries f)) (λ j c. few i j
            (reach j c b enough))
            ∙ ap (λ s. s k) (·_comm (entries g) (spread p (entries f))));
      }
    where
      reach : {k : ℕ} (j : ℕ) → j ≤ k → k < length m → (length f ≤ i) ⊎ (length m ≤ i * p)
          → (length f ≤ i) ⊎ (j < i * p)
      reach j c b (inl short) = inl short
      reach j c b (inr low) = inr (omega arith)

-- ---- where all terms are taken that f has, or that stand within n entries
pub beyond : (k n p t : ℕ) → 0 < p → t ≡ min k (div_ceil n p) → (i : ℕ) → t ≤ i → (k ≤ i) ⊎ (n ≤ i * p)
beyond k n p t one is i b =
    by_order i k
    (λ low.
    let all : div_ceil n p ≤ i = omega arith in
    inr (NatL.le_trans (div_ceil_times n p one).0 (NatL.mul-le-mul_right p all)))
    (λ high. inl high)
