-- The partial request's outcomes: which code each test leads to, and what is then told and left.
use Prim.Native.Nat.{ℕ, ◌+◌, ◌-◌, ◌<◌, ◌≤◌}
use mathlib.Core.Path.{◌≡◌, refl, sym, ◌∙◌, ap, ap₂}
use mathlib.Core.Bool.{Bool, true, false, cond}
use mathlib.Core.Logic.{◌≢◌}
use mathlib.Core.List.{List, ◌++◌}
use native.Mathlib.Omega.{arith}
use borrow.Author.Tests.{eq-eqb, ne_eqb, lt-ltb, le-ltb, le-leb, lt-leb}
use lib.ListN.{length, drop, length-replicate}
use lib.Dec.{leb}
use lib.IntN.{ℤ, nat_abs}
use Rattle.definitions.specs.Integers.{0ℤ}
use Rattle.definitions.specs.Codes.{DONE, KIND, INDEX, LIMIT, STEP, SHORT, OVER}
use Rattle.definitions.specs.Numbers.{r_of}
use Rattle.definitions.specs.Steps.{below_one}
use Rattle.definitions.specs.KeptHalf.{half_degree, kept_half, additions_after}
use Rattle.definitions.specs.Requests.{known_kind, good_index, divisors_due, over_among, written, zeros}
use Rattle.answers.specs.declared.Stop.{Stop}
use Rattle.answers.specs.Partial.{code, answered, answer, left, leaves}
use Rattle.index.specs.declared.Parts.{Parts}
use Rattle.kept_half.specs.Halves.{StepsDue, RunTaken, Zeroed}
use Rattle.kept_half.specs.declared.Ran.{Ran}
use Rattle.kept_half.proofs.Turning.{kept-length}

-- ---- codes
module _ (kind n j : ℕ) (w : ℤ) (room : ℕ) where
  pub stop-kind : known_kind kind ≡ false → code kind n j w room ≡ KIND
  unfolding code
  stop-kind e = rw e

  pub stop-index : known_kind kind ≡ true → good_index n ≡ false → code kind n j w room ≡ INDEX
  unfolding code
  stop-index e f = rw (e, f)

  pub stop-one : known_kind kind ≡ true → good_index n ≡ true → r_of n ≡ 1 → code kind n j w room ≡ INDEX
  unfolding code
  stop-one e f g = rw (e, f, eq-eqb (r_of n) 1 g)

  module _ (e : known_kind kind ≡ true) (f : good_index n ≡ true) (g : r_of n ≢ 1) where
    pub stop_step : divisors_due (r_of n) < j → code kind n j w room ≡ STEP
    unfolding code
    stop_step h = rw (e, f, ne_eqb (r_of n) 1 g, lt-ltb (divisors_due (r_of n)) j h)

    module _ (few : j ≤ divisors_due (r_of n)) where
      pub stop_limit : below_one w ≡ true → code kind n j w room ≡ LIMIT
      unfolding code
      stop_limit b = rw (e, f, ne_eqb (r_of n) 1 g, le-ltb (divisors_due (r_of n)) j few, b)

      module _ (good : below_one w ≡ false) where
        stop_good : code kind n j w room
            ≡ cond (leb room (half_degree kind (r_of n))) SHORT (cond (over_among (nat_abs w) kind (r_of n) j) OVER DONE)
        unfolding code
        stop_good = rw (e, f, ne_eqb (r_of n) 1 g, le-ltb (divisors_due (r_of n)) j few, good) refl

        pub stop-short : room ≤ half_degree kind (r_of n) → code kind n j w room ≡ SHORT
        stop-short h = stop_good ∙ rw (le-leb room (half_degree kind (r_of n)) h) refl

        pub stop_last : half_degree kind (r_of n) < room → code kind n j w room
            ≡ cond (over_among (nat_abs w) kind (r_of n) j) OVER DONE
        stop_last h = stop_good ∙ rw (lt-leb room (half_degree kind (r_of n)) h) refl

-- ---- outcomes: the answer and what is left, by the code
module _ (kind n j : ℕ) (w : ℤ) (l : List ℤ) (c : ℕ) (e : code kind n j w (length l) ≡ c) where
  told : answer kind n j w (length l) ≡ answered kind n j c
  unfolding answer
  told = ap (answered kind n j) e

  stands_left : leaves kind n j w l ≡ left kind n j c l
  unfolding leaves
  stands_left = ap (λ x. left kind n j x l) e

-- a refusal that tells degree 0 and leaves all as it was
abbrev pub Stopped : (kind n j : ℕ) → ℤ → Stop → List ℤ → List ℤ → Type 0
Stopped kind n j w a m l = (a ≡ answer kind n j w (length l)) × (m ≡ leaves kind n j w l)

module _ (kind n j : ℕ) (w : ℤ) (l : List ℤ) where
  -- KIND, INDEX, STEP and LIMIT
  pub plain-stop :
      (c : ℕ) → answered kind n j c ≡ record { code = c; degree = 0; additions = 0; due = 0 } → left kind n j c l ≡ l
      → code kind n j w (length l) ≡ c
      → Stopped kind n j w (record { code = c; degree = 0; additions = 0; due = 0 }) l l
  plain-stop c a b e = (sym (told kind n j w l c e ∙ a), sym (stands_left kind n j w l c e ∙ b))

  pub at_kind : code kind n j w (length l) ≡ KIND
      → Stopped kind n j w (record { code = KIND; degree = 0; additions = 0; due = 0 }) l l
  unfolding answered left
  at_kind e = plain-stop KIND refl refl e

  pub at_index : code kind n j w (length l) ≡ INDEX
      → Stopped kind n j w (record { code = INDEX; degree = 0; additions = 0; due = 0 }) l l
  unfolding answered left
  at_index e = plain-stop INDEX refl refl e

  pub at_step : code kind n j w (length l) ≡ STEP
      → Stopped kind n j w (record { code = STEP; degree = 0; additions = 0; due = 0 }) l l
  unfolding answered left
  at_step e = plain-stop STEP refl refl e

  pub at_limit : code kind n j w (length l) ≡ LIMIT
      → Stopped kind n j w (record { code = LIMIT; degree = 0; additions = 0; due = 0 }) l l
  unfolding answered left
  at_limit e = plain-stop LIMIT refl refl e

  pub at_short : code kind n j w (length l) ≡ SHORT
      → Stopped kind n j w (record { code = SHORT; degree = half_degree kind (r_of n); additions = 0; due = 0 }) l l
  unfolding answered left
  at_short e = (sym (told kind n j w l SHORT e), sym (stands_left kind n j w l SHORT e))

  pub at_over :
      code kind n j w (length l) ≡ OVER
      → Stopped kind n j w (record { code = OVER; degree = half_degree kind (r_of n); additions = 0; due = 0 })
      (written (zeros (half_degree kind (r_of n) + 1)) l) l
  unfolding answered left
  at_over e = (sym (told kind n j w l OVER e), sym (stands_left kind n j w l OVER e))

  pub at_done :
      code kind n j w (length l) ≡ DONE
      → Stopped kind n j w
      (record {
        code = DONE;
        degree = half_degree kind (r_of n);
        additions = additions_after kind (r_of n) j;
        due =
            divisors_due (r_of n) - j;
      }) (written (kept_half kind (r_of n) j) l) l
  unfolding answered left
  at_done e = (sym (told kind n j w l DONE e), sym (stands_left kind n j w l DONE e))

-- ---- after the tests: n is good and taken apart, and D is known
module _ (kind n j : ℕ) (w : ℤ) (x : Parts) (S : StepsDue kind n x) (l : List ℤ) (d : ℕ)
    (ed : d ≡ half_degree kind (r_of n)) where
  pub too_many : divisors_due (r_of n) < j
      → Stopped kind n j w (record { code = STEP; degree = 0; additions = 0; due = 0 }) l l
  too_many h = at_step kind n j w l (stop_step kind n j w (length l) S.known S.good S.above h)

  pub too_low : j ≤ divisors_due (r_of n) → below_one w ≡ true
      → Stopped kind n j w (record { code = LIMIT; degree = 0; additions = 0; due = 0 }) l l
  too_low few b = at_limit kind n j w l (stop_limit kind n j w (length l) S.known S.good S.above few b)

  module _ (few : j ≤ divisors_due (r_of n)) (good : below_one w ≡ false) where
    pub too_short : length l ≤ d → Stopped kind n j w (record { code = SHORT; degree = d; additions = 0; due = 0 }) l l
    too_short h =
        let s = at_short kind n j w l
        (stop-short kind n j w (length l) S.known S.good S.above few good (omega arith)) in
        (ap (λ k. record { code = SHORT; degree = k; additions = 0; due = 0 }) ed ∙ s.0, s.1)

    -- m stands in the first D + 1 entries after the steps
    module _ (room : d < length l) (m : List ℤ) {limit : ℕ} (is : limit ≡ nat_abs w) where
      last_code : {over : Bool} → over_among limit kind (r_of n) j ≡ over → code kind n j w (length l) ≡ cond over OVER DONE
      last_code e =
          stop_last kind n j w (length l) S.known S.good S.above few good (omega arith)
          ∙ ap (λ k. cond (over_among k kind (r_of n) j) OVER DONE) (sym is)
          ∙ ap (λ b. cond b OVER DONE) e

      in_front : (new : List ℤ) → length new ≡ half_degree kind (r_of n) + 1 → m ≡ new
          → m ++ drop (d + 1) l ≡ written new l
      unfolding written
      in_front new len q = ap₂ (λ x k. x ++ drop k l) q (ap (λ x. x + 1) ed ∙ sym len)

      pub made_over_lem : Zeroed limit kind (r_of n) j m
          → Stopped kind n j w (record { code = OVER; degree = d; additions = 0; due = 0 }) (m ++ drop (d + 1) l) l
      unfolding zeros
      made_over_lem made =
          let s = at_over kind n j w l (last_code made.ran.over) in (
            ap (λ k. record { code = OVER; degree = k; additions = 0; due = 0 }) ed ∙ s.0,
            in_front (zeros (half_degree kind (r_of n) + 1)) (length-replicate (half_degree kind (r_of n) + 1) 0ℤ)
                made.zeroed ∙ s.1,
          )

      pub made_done : {h : Ran} → RunTaken limit kind (r_of n) j m h
          → Stopped kind n j w (record { code = DONE; degree = d; additions = h.additions; due = h.due })
          (m ++ drop (d + 1) l) l
      made_done made =
          let s = at_done kind n j w l (last_code made.over) in (
            stop_same ed made.additions made.due ∙ s.0,
            in_front (kept_half kind (r_of n) j) (kept-length kind (r_of n) j) made.half ∙ s.1,
          )
        where
          stop_same : {x y z x' y' z' : ℕ} → x ≡ x' → y ≡ y' → z ≡ z'
              → ◌≡◌ {A = Stop} (record { code = DONE; degree = x; additions = y; due = z })
              (record { code = DONE; degree = x'; additions = y'; due = z' })
          stop_same p q r i = record { code = DONE; degree = p i; additions = q i; due = r i }
