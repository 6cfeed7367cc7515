-- What the tests of the definitions tell. `Tests b A` says that the test b is true exactly where the fact A holds;
-- tests made of others by &&, not and someTo test the facts made likewise, and tests of equivalent facts are equal.
-- Also strong induction.
use Rattle.std.specs.Prelude.{ℕ, zero, suc, ◌%◌, ◌≤◌, ◌<◌, ◌≡◌, refl, Bool, true, false, not, ◌&&◌, ◌||◌, ◌≢◌, ◌⊎◌, eqb, ltb, leb}
use Rattle.std.specs.Int.{◌∣◌}
use Rattle.std.proofs.Common.{sym, ap, true≢false, inl, inr, ⊎_elim, not-suc-le-zero, arith, eqb-true, eq-eqb, ltb-true, lt-ltb, leb-true, le-leb}
use Rattle.std.proofs.lemmas.Bool.{false≢true}
use Rattle.std.proofs.Math.Nat.{mod-eq-zero_of_dvd, dvd_of_mod-eq-zero, le-suc_iff}
use Rattle.definitions.specs.Numbers.{divides, some_to}
use Rattle.definitions.specs.Requests.{known_kind}

pub record Tests (b : Bool) (A : Type 0) : Type 0 where
  pub says : A → b ≡ true
  pub shows : b ≡ true → A

-- a test is true or false
pub either : (b : Bool) → (b ≡ true) ⊎ (b ≡ false)
either true = inl refl
either false = inr refl

pub not_both : {b : Bool} → b ≡ true → b ≡ false → ⊥
not_both p q = true≢false (cc)

same_bools : (b c : Bool) → (b ≡ true → c ≡ true) → (c ≡ true → b ≡ true) → b ≡ c
same_bools true c f g = sym (f refl)
same_bools false true f g = g refl
same_bools false false f g = refl

module _ {b : Bool} {A : Type 0} (t : Tests b A) where
  -- the fact does not hold: the test is false, and the other way round
  pub denies : ¬ A → b ≡ false
  denies n = ⊎_elim (λ (e : b ≡ true). absurd (n (t.shows e))) (λ e. e) (either b)

  pub refutes : b ≡ false → ¬ A
  refutes e a = not_both (t.says a) e

  pub decided : A ⊎ (¬ A)
  decided = ⊎_elim (λ e. inl (t.shows e)) (λ e. inr (refutes e)) (either b)

  pub same : {c : Bool} {B : Type 0} → Tests c B → (A → B) → (B → A) → b ≡ c
  same {c} u f g = same_bools b c (λ e. u.says (f (t.shows e))) (λ e. t.says (g (u.shows e)))

  -- the same test, read as an equivalent fact
  pub reads : {B : Type 0} → (A → B) → (B → A) → Tests b B
  reads f g = record { says = λ x. t.says (g x); shows = λ e. f (t.shows e) }

pub test_true : (b : Bool) → Tests b (b ≡ true)
test_true b = record { says = λ e. e; shows = λ e. e }

pub test_eq : (a b : ℕ) → Tests (eqb a b) (a ≡ b)
test_eq a b = record { says = eq-eqb a b; shows = eqb-true a b }

pub test_lt : (a b : ℕ) → Tests (ltb a b) (a < b)
test_lt a b = record { says = lt-ltb a b; shows = ltb-true a b }

pub test_le : (a b : ℕ) → Tests (leb a b) (a ≤ b)
test_le a b = record { says = le-leb a b; shows = leb-true a b }

pub test_divides : (d n : ℕ) → Tests (divides d n) (d ∣ n)
unfolding divides
test_divides d n = reads (test_eq (n % d) 0) (dvd_of_mod-eq-zero d) (mod-eq-zero_of_dvd d)

pub divides_yes : (d n : ℕ) → d ∣ n → divides d n ≡ true
divides_yes d n = (test_divides d n).says

pub yes_divides : (d n : ℕ) → divides d n ≡ true → d ∣ n
yes_divides d n = (test_divides d n).shows

pub divides_no : (d n : ℕ) → ¬ (d ∣ n) → divides d n ≡ false
divides_no d n = denies (test_divides d n)

pub no_divides : (d n : ℕ) → divides d n ≡ false → ¬ (d ∣ n)
no_divides d n = refutes (test_divides d n)

pub test_not : {b : Bool} {A : Type 0} → Tests b A → Tests (not b) (¬ A)
test_not {b} t = record { says = λ n. ap not (denies t n); shows = λ e. refutes t (unnot b e) }
  where
    unnot : (c : Bool) → not c ≡ true → c ≡ false
    unnot true e = sym e
    unnot false e = refl

pub test_and : {a b : Bool} {A B : Type 0} → Tests a A → Tests b B → Tests (a && b) (A × B)
test_and {a} {b} t u =
    record {
      says = λ p. both a b (t.says p.0) (u.says p.1);
      shows = λ e. (t.shows (left a b e), u.shows (right a b e));
    }
  where
    both : (c d : Bool) → c ≡ true → d ≡ true → (c && d) ≡ true
    both true d p q = q
    both false d p q = p

    left : (c d : Bool) → (c && d) ≡ true → c ≡ true
    left true d e = refl
    left false d e = e

    right : (c d : Bool) → (c && d) ≡ true → d ≡ true
    right true d e = e
    right false d e = absurd (false≢true e)

pub test_or : {a b : Bool} {A B : Type 0} → Tests a A → Tests b B → Tests (a || b) (A ⊎ B)
test_or {a} {b} t u =
    record {
      says = ⊎_elim (λ x. left a b (t.says x)) (λ y. right a b (u.says y));
      shows = λ e. ⊎_elim (λ x. inl (t.shows x)) (λ y. inr (u.shows y)) (which a b e);
    }
  where
    left : (c d : Bool) → c ≡ true → (c || d) ≡ true
    left true d p = refl
    left false d p = absurd (false≢true p)

    right : (c d : Bool) → d ≡ true → (c || d) ≡ true
    right true d p = refl
    right false d p = p

    which : (c d : Bool) → (c || d) ≡ true → (c ≡ true) ⊎ (d ≡ true)
    which true d e = inl refl
    which false d e = inr e

-- one of 1, .., k has the property
abbrev pub Some : ℕ → (ℕ → Type 0) → Type 0
Some k Q = (c : ℕ) × (0 < c) × (c ≤ k) × Q c

some_more : (k : ℕ) (Q : ℕ → Type 0) → Some k Q ⊎ Q (suc k) → Some (suc k) Q
some_more k Q (inl s) = (s.0, s.1, omega (arith, s.2), s.3)
some_more k Q (inr q) = (suc k, omega arith, omega arith, q)

some_less : (k : ℕ) (Q : ℕ → Type 0) → Some (suc k) Q → Some k Q ⊎ Q (suc k)
some_less k Q s =
    ⊎_elim (λ l. inl (s.0, s.1, l, s.3)) (λ e. inr (rw e at s.3)) (le-suc_iff.0 s.2)

pub test_some : (k : ℕ) {p : ℕ → Bool} {Q : ℕ → Type 0} → ((c : ℕ) → Tests (p c) (Q c)) → Tests (some_to k p) (Some k Q)
unfolding some_to
test_some zero t = record { says = λ s. absurd (omega (arith, s.1, s.2)); shows = λ e. absurd (false≢true e) }
test_some (suc k) {p} {Q} t = reads (test_or (test_some k t) (t (suc k))) (some_more k Q) (some_less k Q)

-- strong induction
strong_below : (P : ℕ → Type 0) → ((n : ℕ) → ((m : ℕ) → m < n → P m) → P n) → (k n : ℕ) → n < k → P n
strong_below P step zero n h = absurd (not-suc-le-zero h)
strong_below P step (suc k) n h = step n (λ m l. strong_below P step k m (omega arith))

pub strong : (P : ℕ → Type 0) → ((n : ℕ) → ((m : ℕ) → m < n → P m) → P n) → (n : ℕ) → P n
strong P step n = strong_below P step (suc n) n (omega arith)

-- a known kind that is not 1 is 2
pub kind_two : (kind : ℕ) → known_kind kind ≡ true → kind ≢ 1 → kind ≡ 2
unfolding known_kind
kind_two kind e n = ⊎_elim (λ h. absurd (n h)) (λ h. h) ((test_or (test_eq kind 1) (test_eq kind 2)).shows e)
