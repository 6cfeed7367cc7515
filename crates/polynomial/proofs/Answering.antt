-- The polynomial request's outcomes: which code each test leads to, and what is then told and left.
use Prim.Native.Nat.{ℕ, suc, ◌+◌, ◌<◌, ◌≤◌}
use mathlib.Core.Path.{◌≡◌, refl, sym, ◌∙◌, ap, ap₂}
use mathlib.Core.Bool.{Bool, true, false, cond, ◌||◌}
use mathlib.Core.Logic.{◌⊎◌, inl, inr, ⊎_elim}
use mathlib.Core.List.{List, ◌++◌}
use native.Mathlib.Omega.{arith}
use borrow.Author.Tests.{le-ltb, le-leb, lt-leb}
use lib.ListN.{length, drop, length-replicate}
use lib.Dec.{ltb}
use lib.IntN.{ℤ, pos}
use Rattle.definitions.specs.Integers.{0ℤ}
use Rattle.definitions.specs.Codes.{DONE, KIND, INDEX, LIMIT, SHORT, OVER, TALL}
use Rattle.definitions.specs.Numbers.{r_of}
use Rattle.definitions.specs.Polynomials.{degree, polynomial}
use Rattle.definitions.specs.Steps.{below_one}
use Rattle.definitions.specs.Requests.{known_kind, good_index, divisors_due, over_among, written, zeros}
use Rattle.definitions.specs.Answer.{coefficients, height, peak, gain, additions_for}
use Rattle.step_laws.specs.Firsts.{length-firsts}
use Rattle.answers.specs.Polynomial.{code, answered, answer, left, leaves}
use Rattle.answers.specs.declared.Answer.{Answer}
use Rattle.answers.proofs.Told.{told-only, same_done, in_front}
use Rattle.std.specs.Prelude.{Option, Some, None, Ok, Err}
use Rattle.answers.specs.Refusals.{number_of}
use Rattle.answers.specs.declared.Refusal.{Refusal}
use Rattle.answers.specs.declared.Refusal.TheVariants as R
use Rattle.polynomial.specs.Making.{MadeIs, refusal_of}
use Rattle.polynomial.specs.declared.making.Made.{Made}

-- ---- codes
module _ (kind n : ℕ) (h w : ℤ) (room : ℕ) where
  pub ask_kind : known_kind kind ≡ false → code kind n h w room ≡ KIND
  unfolding code
  ask_kind e = rw e

  pub ask_index : known_kind kind ≡ true → good_index n ≡ false → code kind n h w room ≡ INDEX
  unfolding code
  ask_index e f = rw (e, f)

  pub ask_limit : known_kind kind ≡ true → good_index n ≡ true → (below_one h || below_one w) ≡ true
      → code kind n h w room ≡ LIMIT
  unfolding code
  ask_limit e f g = rw (e, f, g)

-- the code for a refusal, or for none
abbrev told_by : Option Refusal → ℕ
told_by None = DONE
told_by (Some refusal) = number_of refusal

module _ (kind n h w room : ℕ) (e : known_kind kind ≡ true) (f : good_index n ≡ true) (g : 1 ≤ h) (k : 1 ≤ w) where
  limits : (below_one (pos h) || below_one (pos w)) ≡ false
  unfolding below_one
  limits = rw (le-ltb h 1 g, le-ltb w 1 k) refl

  pub ask_short : room ≤ degree kind n → code kind n (pos h) (pos w) room ≡ SHORT
  unfolding code
  ask_short b = rw (e, f, limits, le-leb room (degree kind n) b)

  pub ask_last : degree kind n < room → code kind n (pos h) (pos w) room ≡ told_by (refusal_of kind n h w)
  unfolding code refusal_of
  ask_last b =
      rw (e, f, limits, lt-leb room (degree kind n) b)
      (go (over_among w kind (r_of n) (divisors_due (r_of n))) (ltb h (height kind n)))
    where
      go : (b t : Bool) → cond b OVER (cond t TALL DONE) ≡ told_by (cond b (Some R.Over) (cond t (Some R.Tall) None))
      go true t = refl
      go false true = refl
      go false false = refl

-- ---- outcomes
abbrev pub Answers : (kind n : ℕ) (h w : ℤ) → Answer → List ℤ → List ℤ → Type 0
Answers kind n h w a m l = (a ≡ answer kind n h w (length l)) × (m ≡ leaves kind n h w l)

module _ (kind n : ℕ) (h w : ℤ) (l : List ℤ) where
  by_code : (c : ℕ) (a : Answer) (m : List ℤ) → a ≡ answered kind n c → m ≡ left kind n c l → code kind n h w (length l)
      ≡ c → Answers kind n h w a m l
  unfolding answer leaves
  by_code c a m p q e = (p ∙ ap (answered kind n) (sym e), q ∙ ap (λ x. left kind n x l) (sym e))

  pub at_kind : code kind n h w (length l) ≡ KIND → Answers kind n h w (told-only KIND 0) l l
  unfolding answered left
  at_kind = by_code KIND (told-only KIND 0) l refl refl

  pub at_index : code kind n h w (length l) ≡ INDEX → Answers kind n h w (told-only INDEX 0) l l
  unfolding answered left
  at_index = by_code INDEX (told-only INDEX 0) l refl refl

  pub at_limit : code kind n h w (length l) ≡ LIMIT → Answers kind n h w (told-only LIMIT 0) l l
  unfolding answered left
  at_limit = by_code LIMIT (told-only LIMIT 0) l refl refl

  pub at_short : code kind n h w (length l) ≡ SHORT → Answers kind n h w (told-only SHORT (degree kind n)) l l
  unfolding answered left
  at_short = by_code SHORT (told-only SHORT (degree kind n)) l refl refl

  at_over : code kind n h w (length l) ≡ OVER
      → Answers kind n h w (told-only OVER (degree kind n)) (written (zeros (suc (degree kind n))) l) l
  unfolding answered left
  at_over = by_code OVER (told-only OVER (degree kind n)) (written (zeros (suc (degree kind n))) l) refl refl

  at_tall : code kind n h w (length l) ≡ TALL
      → Answers kind n h w (told-only TALL (degree kind n)) (written (zeros (suc (degree kind n))) l) l
  unfolding answered left
  at_tall = by_code TALL (told-only TALL (degree kind n)) (written (zeros (suc (degree kind n))) l) refl refl

  at_done :
      code kind n h w (length l) ≡ DONE
      → Answers kind n h w
      (record {
        code = DONE;
        degree = degree kind n;
        additions = additions_for kind n;
        height = height kind n;
        peak = peak kind n;
        gain = gain kind n;
      }) (written (coefficients kind n) l) l
  unfolding answered left
  at_done = by_code DONE _ (written (coefficients kind n) l) refl refl

-- ---- after the making
-- nothing but OVER and TALL comes
which : (kind n h w : ℕ) (refusal : Refusal) → refusal_of kind n h w ≡ Some refusal
    → (refusal ≡ R.Over) ⊎ (refusal ≡ R.Tall)
unfolding refusal_of
which kind n h w refusal = go (over_among w kind (r_of n) (divisors_due (r_of n))) (ltb h (height kind n))
  where
    go : (b t : Bool) → cond b (Some R.Over) (cond t (Some R.Tall) None) ≡ Some refusal
        → (refusal ≡ R.Over) ⊎ (refusal ≡ R.Tall)
    go true t q = inl (cc)
    go false true q = inr (cc)
    go false false q = absurd (cc)

module _
    (kind n h w : ℕ) (l : List ℤ) (e : known_kind kind ≡ true) (f : good_index n ≡ true) (g : 1 ≤ h) (k : 1 ≤ w) (d : ℕ)
    (ed : d ≡ degree kind n) (room : d < length l) (m : List ℤ)
  where
    last_code : code kind n (pos h) (pos w) (length l) ≡ told_by (refusal_of kind n h w)
    last_code = ask_last kind n h w (length l) e f g k (omega arith)

    pub refuses : (refusal : Refusal) → MadeIs kind n h w m (Err refusal)
        → Answers kind n (pos h) (pos w) (told-only (number_of refusal) d) (m ++ drop (d + 1) l) l
    unfolding zeros
    refuses refusal made =
        ⊎_elim (λ x. go R.Over x (at_over kind n (pos h) (pos w) l)) (λ x. go R.Tall x (at_tall kind n (pos h) (pos w) l))
        (which kind n h w refusal made.0)
      where
        go : (c : Refusal) → refusal ≡ c
            → (code kind n (pos h) (pos w) (length l) ≡ number_of c
            → Answers kind n (pos h) (pos w) (told-only (number_of c) (degree kind n))
            (written (zeros (suc (degree kind n))) l) l)
            → Answers kind n (pos h) (pos w) (told-only (number_of refusal) d) (m ++ drop (d + 1) l) l
        go c x s =
            let y = s (last_code ∙ (ap told_by made.0 ∙ ap number_of x)) in (
              ap₂ (λ r j. told-only (number_of r) j) x ed ∙ y.0,
              in_front l (zeros (suc (degree kind n))) ed (length-replicate (suc (degree kind n)) 0ℤ) made.1 ∙ y.1,
            )

    pub delivers : (r : Made) → MadeIs kind n h w m (Ok r) → (x : ℤ) → x ≡ gain kind n
        → Answers kind n (pos h) (pos w)
        (record { code = DONE; degree = d; additions = r.additions; height = r.height; peak = r.peak; gain = x })
        (m ++ drop (d + 1) l) l
    unfolding coefficients
    delivers r made x is =
        let y = at_done kind n (pos h) (pos w) l (last_code ∙ ap told_by made.0) in (
          same_done ed (ap (λ v. v.additions) made.2) (ap (λ v. v.height) made.2) (ap (λ v. v.peak) made.2) is ∙ y.0,
          in_front l (coefficients kind n) ed (length-firsts (suc (degree kind n)) (polynomial kind n)) made.1 ∙ y.1,
        )
