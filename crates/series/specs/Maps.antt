-- Putting something for z. A map of series that keeps the first coefficient and sends the tail of f to w times the
-- image of the tail, φ f = f(0) + z w φ(tail f), is a ring homomorphism (`sub-add`, `sub-mul`, ..). z ↦ z^t (`spread`)
-- is one with w = z^(t-1), and z ↦ -z (`alternate`) with w = -1.
use Rattle.std.specs.Prelude.{ℕ, zero, suc, pred, ◌+◌, ◌*◌, ◌-◌, ◌/◌, ◌%◌, ◌≤◌, ◌<◌, ◌≡◌, refl, cond, ◌≢◌, ◌⊎◌, [], ◌∷◌, ℤ, eqb}
use Rattle.std.proofs.Math.Path.{sym, ap, ap₂, fun_ext}
use Rattle.std.proofs.Common.{◌∙◌, inl, inr, arith, add-one, eq-eqb, ne_eqb}
use Rattle.std.proofs.Math.Decide.{dec_lt, ℕ_discrete}
use Rattle.std.proofs.Math.Nat as NatL
use Rattle.std.proofs.Math.Arith.{mod-mul}
use Rattle.std.proofs.Math.Dec.{eqb-suc-suc}
use Rattle.definitions.specs.Integers.{◌⊕◌, ◌⊗◌, ⊖, 0ℤ, 1ℤ}
use Rattle.definitions.specs.Series.{Series, tail, constant, 𝟘, 𝟙, ◌+ˢ◌, _ˢ, ◌·◌, z^, spread, alternate}
use Rattle.integers.specs.Solver.{:1, ◌:*◌, :-, x}
use Rattle.integers.specs.Ring as Laws
use Rattle.integers.specs.Whole.{⊕_zero, zero_⊗, zero_⊕, ⊖-zero, ringℤ}
use Rattle.series.specs.Laws.{scale, at_+ˢ, at__ˢ, at_𝟘, at_mul-zero, at_mul-suc, agree_mul, tail-mul, scale-mul}
use Rattle.series.specs.Laws.{constant-mul, one_·, +ˢ_zero, +ˢ_neg, ·_+ˢ, ·_assoc, series_ring}

-- ---- two families of series that start alike and go on alike are the same
module _ {X : Type 0} (w : Series) (next : X → X) (c : X → Series) (A B : X → Series)
    (heads : (s : X) → A s zero ≡ B s zero)
    (a : (s : X) (i : ℕ) → A s (suc i) ≡ c s i ⊕ (w · A (next s)) i)
    (b : (s : X) (i : ℕ) → B s (suc i) ≡ c s i ⊕ (w · B (next s)) i)
  where
    one_more : (n : ℕ) (s : X) → ((j : ℕ) → j < n → A (next s) j ≡ B (next s) j) → (i : ℕ) → i < suc n → A s i ≡ B s i
    one_more n s ih zero h = heads s
    one_more n s ih (suc i) h =
        a s i ∙ ap (λ e. c s i ⊕ e) (agree_mul i w (A (next s)) (B (next s)) (λ j k. ih j (omega arith))) ∙ sym (b s i)

    alike_to : (n : ℕ) (s : X) (i : ℕ) → i < n → A s i ≡ B s i
    alike_to zero s i h = absurd (NatL.not-suc-le-zero h)
    alike_to (suc n) s i h = one_more n s (alike_to n (next s)) i h

    pub alike : (s : X) → A s ≡ B s
    alike s = fun_ext (λ i. alike_to (suc i) s i (NatL.le_refl (suc i)))

-- ---- a map that puts something for z
pub record Puts (φ : Series → Series) (w : Series) : Type 0 where
  pub head : (f : Series) → φ f zero ≡ f zero
  pub step : (f : Series) (i : ℕ) → φ f (suc i) ≡ (w · φ (tail f)) i

module _ (φ : Series → Series) (w : Series) (P : Puts φ w) where
  open P use {head, step}

  step⁺ : (f : Series) (i : ℕ) → φ f (suc i) ≡ 0ℤ ⊕ (w · φ (tail f)) i
  step⁺ f i = step f i ∙ sym (zero_⊕ ((w · φ (tail f)) i))

  pub put_add : (f g : Series) → φ (f +ˢ g) ≡ φ f +ˢ φ g
  unfolding ◌+ˢ◌
  put_add f g =
      alike {X = Series × Series} w (λ s. (tail s.0, tail s.1)) (λ s i. 0ℤ)
      (λ s. φ (s.0 +ˢ s.1)) (λ s. φ s.0 +ˢ φ s.1)
      (λ s. head (s.0 +ˢ s.1) ∙ sym (ap₂ ◌⊕◌ (head s.0) (head s.1)))
      (λ s i. step⁺ (s.0 +ˢ s.1) i)
      (λ s i. ap₂ ◌⊕◌ (step s.0 i) (step s.1 i)
      ∙ sym (zero_⊕ _ ∙ ap (λ q. q i) (·_+ˢ w (φ (tail s.0)) (φ (tail s.1)))))
      (f, g)

  put_scale : (a : ℤ) (f : Series) → φ (scale a f) ≡ scale a (φ f)
  unfolding scale
  put_scale a f =
      alike w tail (λ s i. 0ℤ) (λ s. φ (scale a s)) (λ s. scale a (φ s))
      (λ s. head (scale a s) ∙ sym (ap (λ q. a ⊗ q) (head s)))
      (λ s i. step⁺ (scale a s) i)
      (λ s i. ap (λ q. a ⊗ q) (step s i) ∙ sym (zero_⊕ _ ∙ scale-mul w a (φ (tail s)) i))
      f

  pub put_mul : (f g : Series) → φ (f · g) ≡ φ f · φ g
  put_mul f g =
      alike w tail (λ s i. s zero ⊗ (w · φ (tail g)) i) (λ s. φ (s · g)) (λ s. φ s · φ g)
      (λ s. head (s · g) ∙ at_mul-zero s g ∙ sym (at_mul-zero (φ s) (φ g) ∙ ap₂ ◌⊗◌ (head s) (head g)))
      (λ s i. step (s · g) i
      ∙ ap (λ q. (w · φ q) i) (tail-mul s g)
      ∙ ap (λ q. (w · q) i) (put_add (scale (s zero) (tail g)) (tail s · g)
      ∙ ap (λ q. q +ˢ φ (tail s · g)) (put_scale (s zero) (tail g)))
      ∙ ap (λ q. q i) (·_+ˢ w (scale (s zero) (φ (tail g))) (φ (tail s · g)))
      ∙ at_+ˢ (w · scale (s zero) (φ (tail g))) (w · φ (tail s · g)) i
      ∙ ap (λ q. q ⊕ (w · φ (tail s · g)) i) (scale-mul w (s zero) (φ (tail g)) i))
      (λ s i. at_mul-suc (φ s) (φ g) i
      ∙ ap₂ ◌⊕◌ (ap₂ ◌⊗◌ (head s) (step g i))
      (ap (λ q. (q · φ g) i) (fun_ext (step s)) ∙ ap (λ q. q i) (·_assoc w (φ (tail s)) (φ g))))
      f

  pub put_zero : φ 𝟘 ≡ 𝟘
  put_zero =
      Laws.add_cancel series_ring (φ 𝟘) (φ 𝟘) 𝟘 (sym (put_add 𝟘 𝟘) ∙ ap φ (+ˢ_zero 𝟘) ∙ sym (+ˢ_zero (φ 𝟘)))

  pub put_neg : (f : Series) → φ (_ˢ f) ≡ _ˢ (φ f)
  put_neg f = Laws.neg_unique series_ring (φ f) (φ (_ˢ f)) (sym (put_add f (_ˢ f)) ∙ ap φ (+ˢ_neg f) ∙ put_zero)

  pub put_constant : (a : ℤ) → φ (constant a) ≡ constant a
  unfolding constant
  put_constant a = fun_ext (at)
    where
      none : tail (constant a) ≡ 𝟘
      none = fun_ext (λ i. sym (at_𝟘 i))

      at : (i : ℕ) → φ (constant a) i ≡ constant a i
      at zero = head (constant a)
      at (suc i) =
          step (constant a) i
          ∙ ap (λ q. (w · q) i) (ap φ none ∙ put_zero)
          ∙ ap (λ q. q i) (Laws.mul-zero series_ring w)
          ∙ at_𝟘 i

-- ---- z^n
z^_yes : (n i : ℕ) → i ≡ n → z^ n i ≡ 1ℤ
unfolding z^
z^_yes n i e = rw (eq-eqb i n e)

z^_no : (n i : ℕ) → i ≢ n → z^ n i ≡ 0ℤ
unfolding z^
z^_no n i e = rw (ne_eqb i n e)

pub at_z^ : (n : ℕ) → z^ n n ≡ 1ℤ
at_z^ n = z^_yes n n refl

pub off_z^ : (n i : ℕ) → i ≢ n → z^ n i ≡ 0ℤ
off_z^ n i e = z^_no n i e

tail-z^ : (n : ℕ) → tail (z^ (suc n)) ≡ z^ n
unfolding z^
tail-z^ n = fun_ext (λ i. ap (λ b. cond b 1ℤ 0ℤ) (eqb-suc-suc i n))

pub z^-zero : z^ 0 ≡ 𝟙
unfolding constant
z^-zero = fun_ext (at)
  where
    at : (i : ℕ) → z^ 0 i ≡ 𝟙 i
    at zero = z^_yes 0 0 refl
    at (suc i) = z^_no 0 (suc i) (NatL.suc-ne-zero i)

z^-suc-mul : (n : ℕ) (f : Series) (i : ℕ) → (z^ (suc n) · f) (suc i) ≡ (z^ n · f) i
z^-suc-mul n f i =
    at_mul-suc (z^ (suc n)) f i
    ∙ ap₂ ◌⊕◌ (ap (λ q. q ⊗ f (suc i)) (z^_no (suc n) 0 (λ e. NatL.suc-ne-zero n (sym e))) ∙ zero_⊗ (f (suc i)))
    (ap (λ q. (q · f) i) (tail-z^ n))
    ∙ zero_⊕ ((z^ n · f) i)

-- z^n f is f moved up by n: nothing below n, and f(i) at n + i
pub shift_below : (n : ℕ) (f : Series) (i : ℕ) → i < n → (z^ n · f) i ≡ 0ℤ
shift_below zero f i h = absurd (NatL.not-suc-le-zero h)
shift_below (suc n) f zero h = at_mul-zero (z^ (suc n)) f
    ∙ ap (λ q. q ⊗ f zero) (z^_no (suc n) 0 (λ e. NatL.suc-ne-zero n (sym e))) ∙ zero_⊗ (f zero)
shift_below (suc n) f (suc i) h = z^-suc-mul n f i ∙ shift_below n f i (NatL.le_of_suc-le-suc h)

pub shift_at : (n : ℕ) (f : Series) (i : ℕ) → (z^ n · f) (n + i) ≡ f i
shift_at zero f i = ap₂ (λ q k. (q · f) k) z^-zero (NatL.zero-add i) ∙ ap (λ q. q i) (one_· f)
shift_at (suc n) f i = ap (z^ (suc n) · f) (NatL.suc-add n i) ∙ z^-suc-mul n f (n + i) ∙ shift_at n f i

pub shift_from : (n : ℕ) (f : Series) (i : ℕ) → n ≤ i → (z^ n · f) i ≡ f (i - n)
shift_from n f i h = ap (z^ n · f) (sym (NatL.add-sub_of_le h)) ∙ shift_at n f (i - n)

-- what a shifted series is, by where the degree lies
pub is_shift : (n : ℕ) (f g : Series) → ((i : ℕ) → i < n → g i ≡ 0ℤ) → ((i : ℕ) → g (n + i) ≡ f i) → z^ n · f ≡ g
is_shift n f g low high = fun_ext (λ i. go i (dec_lt i n))
  where
    go : (i : ℕ) → Dec (i < n) → (z^ n · f) i ≡ g i
    go i (yes h) = shift_below n f i h ∙ sym (low i h)
    go i (no h) =
        let at : n + (i - n) ≡ i = omega (arith, NatL.lt_of_not-le h) in
        shift_from n f i (omega (arith, NatL.lt_of_not-le h)) ∙ sym (high (i - n)) ∙ ap g at

pub z^-add : (m n : ℕ) → z^ m · z^ n ≡ z^ (m + n)
z^-add m n =
    is_shift m (z^ n) (z^ (m + n)) (λ i h. z^_no (m + n) i (λ e. lemma i h e)) (λ i. go i (ℕ_discrete i n))
  where
    lemma : (i : ℕ) → i < m → i ≡ m + n → ⊥
    lemma i h e = omega arith

    go : (i : ℕ) → Dec (i ≡ n) → z^ (m + n) (m + i) ≡ z^ n i
    go i (yes e) = z^_yes (m + n) (m + i) (ap (λ k. m + k) e) ∙ sym (z^_yes n i e)
    go i (no e) = z^_no (m + n) (m + i) (λ q. e (NatL.add_left_cancel m q)) ∙ sym (z^_no n i e)

-- ---- f(0) + z (tail f)
pub head_tail : (f : Series) → f ≡ constant (f zero) +ˢ z^ 1 · tail f
unfolding constant
head_tail f = fun_ext (λ i. sym (at_+ˢ (constant (f zero)) (z^ 1 · tail f) i ∙ at i))
  where
    at : (i : ℕ) → constant (f zero) i ⊕ (z^ 1 · tail f) i ≡ f i
    at zero = ap (λ q. f zero ⊕ q) (shift_below 1 (tail f) 0 (omega arith)) ∙ ⊕_zero (f zero)
    at (suc i) = zero_⊕ ((z^ 1 · tail f) (suc i)) ∙ ap (z^ 1 · tail f) (sym (NatL.add_comm 1 i ∙ omega arith))
        ∙ shift_at 1 (tail f) i

-- ---- z ↦ z^t
pub spread_puts : (k : ℕ) → Puts (spread (suc k)) (z^ k)
unfolding spread
spread_puts k =
    record {
      head = λ f. ap₂ (λ a b. cond (eqb a 0) (f b) 0ℤ) (NatL.zero-mod (suc k)) (NatL.zero-div (suc k));
      step =
          λ f i. go f i (dec_lt i k);
    }
  where
    low : (f : Series) (i : ℕ) → i < k → spread (suc k) f (suc i) ≡ 0ℤ
    low f i h = rw (NatL.mod-eq_of_lt {n = suc i} {m = suc k} (omega arith), ne_eqb (suc i) 0 (NatL.suc-ne-zero i))

    high : (f : Series) (j : ℕ) → spread (suc k) f (suc (k + j)) ≡ spread (suc k) (tail f) j
    high f j =
        ap (spread (suc k) f) (sym (NatL.suc-add k j))
        ∙ ap₂ (λ a b. cond (eqb a 0) (f b) 0ℤ) (NatL.add-mod_left (suc k) j) (NatL.add-div_left j (NatL.zero-lt-suc k)
        ∙ add-one (j / suc k))

    go : (f : Series) (i : ℕ) → Dec (i < k) → spread (suc k) f (suc i) ≡ (z^ k · spread (suc k) (tail f)) i
    go f i (yes h) = low f i h ∙ sym (shift_below k (spread (suc k) (tail f)) i h)
    go f i (no h) =
        let at : k + (i - k) ≡ i = omega (arith, NatL.lt_of_not-le h) in
        ap (λ q. spread (suc k) f (suc q)) (sym at) ∙ high f (i - k)
        ∙ sym (shift_from k (spread (suc k) (tail f)) i (omega (arith, NatL.lt_of_not-le h)))

-- ---- z ↦ -z
pub parity : (i : ℕ) → (i % 2 ≡ 0) ⊎ (i % 2 ≡ 1)
parity i = go (ℕ_discrete (i % 2) 0)
  where
    go : Dec (i % 2 ≡ 0) → (i % 2 ≡ 0) ⊎ (i % 2 ≡ 1)
    go (yes e) = inl e
    go (no e) = inr (omega arith)

pub alternate_puts : Puts alternate (constant (⊖ 1ℤ))
unfolding alternate
alternate_puts =
    record {
      head = λ f. refl;
      step = λ f i. go f i (parity i)
          ∙ sym (constant-mul (⊖ 1ℤ) (alternate (tail f)) i
          ∙ ringℤ (alternate (tail f) i ∷ []) (:- :1 :* x) (:- x) refl);
    }
  where
    go : (f : Series) (i : ℕ) → (i % 2 ≡ 0) ⊎ (i % 2 ≡ 1) → alternate f (suc i) ≡ ⊖ (alternate (tail f) i)
    go f i (inl e) =
        let o : suc i % 2 ≡ 1 = omega arith in
        ap (λ a. cond (eqb a 0) (f (suc i)) (⊖ (f (suc i)))) o
        ∙ sym (ap (λ a. ⊖ (cond (eqb a 0) (f (suc i)) (⊖ (f (suc i))))) e)
    go f i (inr e) =
        let o : suc i % 2 ≡ 0 = omega arith in
        ap (λ a. cond (eqb a 0) (f (suc i)) (⊖ (f (suc i)))) o
        ∙ sym (ap (λ a. ⊖ (cond (eqb a 0) (f (suc i)) (⊖ (f (suc i))))) e
        ∙ ringℤ (f (suc i) ∷ []) (:- (:- x)) x refl)

-- ---- z ↦ z^t for every t above 0, as a ring homomorphism
spread_puts⁺ : (t : ℕ) → 0 < t → Puts (spread t) (z^ (pred t))
spread_puts⁺ zero h = absurd (NatL.not-suc-le-zero h)
spread_puts⁺ (suc k) h = spread_puts k

module _ (t : ℕ) (h : 0 < t) where
  pub spread-add : (f g : Series) → spread t (f +ˢ g) ≡ spread t f +ˢ spread t g
  spread-add = put_add (spread t) (z^ (pred t)) (spread_puts⁺ t h)

  pub spread-mul : (f g : Series) → spread t (f · g) ≡ spread t f · spread t g
  spread-mul = put_mul (spread t) (z^ (pred t)) (spread_puts⁺ t h)

  pub spread-neg : (f : Series) → spread t (_ˢ f) ≡ _ˢ (spread t f)
  spread-neg = put_neg (spread t) (z^ (pred t)) (spread_puts⁺ t h)

  pub spread-constant : (a : ℤ) → spread t (constant a) ≡ constant a
  spread-constant = put_constant (spread t) (z^ (pred t)) (spread_puts⁺ t h)

  pub spread-zero : (f : Series) → spread t f zero ≡ f zero
  spread-zero = (spread_puts⁺ t h).head

-- the coefficients of a spread series
pub spread_on : (t i : ℕ) (f : Series) → i % t ≡ 0 → spread t f i ≡ f (i / t)
unfolding spread
spread_on t i f e = rw (eq-eqb (i % t) 0 e)

pub spread_off : (t i : ℕ) (f : Series) → i % t ≢ 0 → spread t f i ≡ 0ℤ
unfolding spread
spread_off t i f e = rw (ne_eqb (i % t) 0 e)

-- two series that are f(i/t) at the multiples of t and 0 elsewhere are the same
pub is_spread : (t : ℕ) (f g : Series) → ((i : ℕ) → i % t ≡ 0 → g i ≡ f (i / t)) → ((i : ℕ) → i % t ≢ 0 → g i ≡ 0ℤ)
    → spread t f ≡ g
is_spread t f g yes' no' = fun_ext (λ i. go i (ℕ_discrete (i % t) 0))
  where
    go : (i : ℕ) → Dec (i % t ≡ 0) → spread t f i ≡ g i
    go i (yes e) = spread_on t i f e ∙ sym (yes' i e)
    go i (no e) = spread_off t i f e ∙ sym (no' i e)

exact : (i t : ℕ) → i % t ≡ 0 → i / t * t ≡ i
exact i t e = omega (arith, NatL.div-add-mod' i t)

pub spread-z^ : (t : ℕ) → 0 < t → (n : ℕ) → spread t (z^ n) ≡ z^ (n * t)
spread-z^ t h n = is_spread t (z^ n) (z^ (n * t)) (λ i e. on i e (ℕ_discrete (i / t) n))
    (λ i e. z^_no (n * t) i (λ q. e (ap (λ k. k % t) q ∙ NatL.mul-mod_left n t)))
  where
    on : (i : ℕ) → i % t ≡ 0 → Dec (i / t ≡ n) → z^ (n * t) i ≡ z^ n (i / t)
    on i e (yes q) = z^_yes (n * t) i (sym (exact i t e) ∙ ap (λ k. k * t) q) ∙ sym (z^_yes n (i / t) q)
    on i e (no q) = z^_no (n * t) i (λ p. q (ap (λ k. k / t) p ∙ NatL.mul-div_cancel n h)) ∙ sym (z^_no n (i / t) q)

pub spread-one : (f : Series) → spread 1 f ≡ f
spread-one f = is_spread 1 f f (λ i e. ap f (sym (NatL.div-one i))) (λ i e. absurd (e (NatL.mod-one i)))

pub spread-spread : (a b : ℕ) → 0 < a → 0 < b → (f : Series) → spread a (spread b f) ≡ spread (b * a) f
spread-spread a b ha hb f = is_spread a (spread b f) (spread (b * a) f) (λ i e. on i e (ℕ_discrete (i / a % b) 0)) off
  where
    split : (i : ℕ) → i % (b * a) ≡ (i / a % b) * a + i % a
    split i = mod-mul i hb ha

    quot : (i : ℕ) → i / (b * a) ≡ i / a / b
    quot i = ap (λ k. i / k) (NatL.mul_comm b a) ∙ sym (NatL.div-div-eq-div-mul i a b)

    on : (i : ℕ) → i % a ≡ 0 → Dec (i / a % b ≡ 0) → spread (b * a) f i ≡ spread b f (i / a)
    on i e (yes q) =
        spread_on (b * a) i f (split i ∙ ap₂ (λ m n. m * a + n) q e ∙ simp (NatL.zero-mul, NatL.add-zero))
        ∙ ap f (quot i) ∙ sym (spread_on b (i / a) f q)
    on i e (no q) =
        spread_off (b * a) i f
        (λ p. q (times_zero (i / a % b) (sym (ap (λ n. (i / a % b) * a + n) e ∙ NatL.add-zero _) ∙ sym (split i)
        ∙ p))) ∙ sym (spread_off b (i / a) f q)
      where
        times_zero : (k : ℕ) → k * a ≡ 0 → k ≡ 0
        times_zero k p = NatL.eq_of_mul-eq-mul_right a ha k 0 (p ∙ sym (NatL.zero-mul a))

    off : (i : ℕ) → i % a ≢ 0 → spread (b * a) f i ≡ 0ℤ
    off i e = spread_off (b * a) i f (λ p. e (omega (arith, split i)))

-- ---- z ↦ -z
pub alternate-mul : (f g : Series) → alternate (f · g) ≡ alternate f · alternate g
alternate-mul = put_mul alternate (constant (⊖ 1ℤ)) alternate_puts

pub alternate-add : (f g : Series) → alternate (f +ˢ g) ≡ alternate f +ˢ alternate g
alternate-add = put_add alternate (constant (⊖ 1ℤ)) alternate_puts

pub alternate-neg : (f : Series) → alternate (_ˢ f) ≡ _ˢ (alternate f)
alternate-neg = put_neg alternate (constant (⊖ 1ℤ)) alternate_puts

pub alternate-constant : (a : ℤ) → alternate (constant a) ≡ constant a
alternate-constant = put_constant alternate (constant (⊖ 1ℤ)) alternate_puts

pub alternate_even : (i : ℕ) (f : Series) → i % 2 ≡ 0 → alternate f i ≡ f i
unfolding alternate
alternate_even i f e = rw (eq-eqb (i % 2) 0 e)

pub alternate_odd : (i : ℕ) (f : Series) → i % 2 ≡ 1 → alternate f i ≡ ⊖ (f i)
unfolding alternate
alternate_odd i f e = rw (ne_eqb (i % 2) 0 (λ q. omega arith))

pub alternate-none : (i : ℕ) (f : Series) → f i ≡ 0ℤ → alternate f i ≡ 0ℤ
alternate-none i f e = go (parity i)
  where
    go : (i % 2 ≡ 0) ⊎ (i % 2 ≡ 1) → alternate f i ≡ 0ℤ
    go (inl p) = alternate_even i f p ∙ e
    go (inr p) = alternate_odd i f p ∙ ap ⊖ e ∙ ⊖-zero

pub alternate-z^_odd : (n : ℕ) → n % 2 ≡ 1 → alternate (z^ n) ≡ _ˢ (z^ n)
alternate-z^_odd n o = fun_ext (λ i. go i (ℕ_discrete i n) ∙ sym (at__ˢ (z^ n) i))
  where
    go : (i : ℕ) → Dec (i ≡ n) → alternate (z^ n) i ≡ ⊖ (z^ n i)
    go i (yes e) = alternate_odd i (z^ n) (ap (λ k. k % 2) e ∙ o)
    go i (no e) = alternate-none i (z^ n) (z^_no n i e) ∙ sym (ap ⊖ (z^_no n i e) ∙ ⊖-zero)

-- the two maps commute where t is odd
pub alternate-spread : (t : ℕ) → t % 2 ≡ 1 → (f : Series) → spread t (alternate f) ≡ alternate (spread t f)
alternate-spread t o f = is_spread t (alternate f) (alternate (spread t f)) (λ i e. on i e (parity (i / t)))
    (λ i e. off i e (parity i))
  where
    odd_times : (q i : ℕ) → q * t ≡ i → i % 2 ≡ q % 2
    odd_times q i e =
        let half : t ≡ 2 * (t / 2) + 1 = omega arith in
        let twice : i ≡ 2 * (q * (t / 2)) + q = sym e ∙ ap (λ k. q * k) half ∙ omega arith in
        omega arith

    on : (i : ℕ) → i % t ≡ 0 → (i / t % 2 ≡ 0) ⊎ (i / t % 2 ≡ 1) → alternate (spread t f) i ≡ alternate f (i / t)
    on i e (inl p) =
        alternate_even i (spread t f) (odd_times (i / t) i (exact i t e) ∙ p) ∙ spread_on t i f e
        ∙ sym (alternate_even (i / t) f p)
    on i e (inr p) =
        alternate_odd i (spread t f) (odd_times (i / t) i (exact i t e) ∙ p) ∙ ap ⊖ (spread_on t i f e)
        ∙ sym (alternate_odd (i / t) f p)

    off : (i : ℕ) → i % t ≢ 0 → (i % 2 ≡ 0) ⊎ (i % 2 ≡ 1) → alternate (spread t f) i ≡ 0ℤ
    off i e (inl p) = alternate_even i (spread t f) p ∙ spread_off t i f e
    off i e (inr p) = alternate_odd i (spread t f) p ∙ ap ⊖ (spread_off t i f e) ∙ ⊖-zero
