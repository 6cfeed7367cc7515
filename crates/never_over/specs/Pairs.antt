-- A bound that the checker computes. A product of terms is q times the terms of those accumulates that no comb has met,
-- where q scales by `times`: a comb of size t d meets an accumulate of size d, and the two together scale by t
-- (`scales_both`); a comb that meets none scales by 2. With the unmet ones weighed (`Weights`), no value is above w
-- where times (n + shift)^power is at most w over (`enough-right`). A run along an ascending list of steps tests that
-- at every stop (`runs-right`).
use Prim.Native.Nat.{ℕ, zero, suc, ◌+◌, ◌*◌, ◌/◌, ◌^◌, ◌<◌, ◌≤◌}
use Rattle.std.specs.Prelude.{◌≡◌, Bool, true, false, ◌&&◌, ltb, leb, nat_abs}
use Rattle.std.proofs.Math.Path.{refl, sym, ap}
use Rattle.std.proofs.Common.{◌∙◌, le_trans, mul-le-mul_left, arith, leb-true, le-leb}
use Rattle.std.proofs.Math.Bool.{cond}
use mathlib.Core.List.{List, [], ◌∷◌, map}
use Rattle.std.proofs.Math.Nat.{le_of_mul-le-mul_right, div-mul_cancel}
use Rattle.definitions.specs.Series.{Series, 𝟙, ◌·◌}
use Rattle.definitions.specs.Numbers.{divides}
use Rattle.definitions.specs.Steps.{Sort, comb, accumulate}
use Rattle.definitions.specs.KeptHalf.{term_of, product_of}
use Rattle.integers.specs.Solver.{◌:*◌}
use Rattle.integers.specs.Solver as Solver
use Rattle.series.specs.Laws.{one_·, ·_one, ·_assoc, ·_left_comm, ringˢ}
use Rattle.numbers.specs.Tests.{denies, test_and, test_lt, test_le, test_true, yes_divides}
use Rattle.numbers.specs.Primes.{quotient-pos}
use Rattle.step_laws.specs.Tests.{by_order}
use Rattle.never_over.specs.Scales.{Scales, scales_one, scales_comb, scales_both, scales_mul}
use Rattle.never_over.specs.Weights.{every, weight, weighed, weight_climbs, over-pos, Positive, none, some}

-- ---- the computation
-- what a comb of size e meets: nothing, or an accumulate t times smaller, which the list then has no more
pub data Met : Type 0 where
  nothing : Met
  met : ℕ → List ℕ → Met

unfoldable pub behind : ℕ → Met → Met
behind d nothing = nothing
behind d (met t rest) = met t (d ∷ rest)

unfoldable pub meet : ℕ → List ℕ → Met
meet e [] = nothing
meet e (d ∷ ds) = cond (divides d e) (met (e / d) ds) (behind d (meet e ds))

-- by how much the combs and the accumulates they met scale, and the sizes of the accumulates that are still unmet
pub record State : Type 0 where
  pub times : ℕ
  pub unmet : List ℕ

abbrev pub at_start : State
at_start = record { times = 1; unmet = [] }

unfoldable pub settled : State → Met → State
settled s nothing = record { times = 2 * s.times; unmet = s.unmet }
settled s (met t rest) = record { times = t * s.times; unmet = rest }

-- after one step more, of a sort and size
unfoldable pub next : Sort → ℕ → State → State
next comb e s = settled s (meet e s.unmet)
next accumulate d s = record { times = s.times; unmet = d ∷ s.unmet }

-- no value below n is above w
unfoldable pub enough : ℕ → ℕ → State → Bool
enough w n s = let g = weight s.unmet in leb (s.times * (n + g.shift) ^ g.power) (w * g.over)

-- at every stop of an ascending list of steps, all above low
unfoldable pub runs : ℕ → ℕ → ℕ → List (ℕ × Sort) → State → Bool
runs w n low [] s = true
runs w n low (x ∷ xs) s =
    let t = next x.1 x.0 s in ltb low x.0 && (enough w n t && runs w n x.0 xs t)

-- ---- what it means
-- f is a product of q, which scales, and of the unmet accumulates
pub record Reached (n : ℕ) (s : State) (f : Series) : Type 0 where
  pub factor : Series
  pub scales : Scales n s.times factor
  pub whole : f ≡ factor · every s.unmet
  pub sizes : Positive s.unmet

pub at_start_lem : (n : ℕ) → Reached n at_start 𝟙
unfolding every product_of
at_start_lem n = record { factor = 𝟙; scales = scales_one n; whole = sym (·_one 𝟙); sizes = none }

-- what was met is a factor of what there was
abbrev Right : ℕ → List ℕ → Met → Type 0
Right e ds nothing = Unit {0}
Right e ds (met t rest) =
    (d : ℕ) × (0 < d) × (0 < t) × (e ≡ t * d) × (every ds ≡ term_of accumulate d · every rest) × Positive rest

meet_right : (e : ℕ) → 0 < e → {ds : List ℕ} → Positive ds → Right e ds (meet e ds)
unfolding meet behind every product_of
meet_right e pos none = tt
meet_right e pos (some {d} {ds} p s) = go (divides d e) refl (meet e ds) (meet_right e pos s)
  where
    further : (m : Met) → Right e ds m → Right e (d ∷ ds) (behind d m)
    further nothing r = tt
    further (met t rest) r = (
      r.0,
      r.1,
      r.2,
      r.3,
      ap (λ q. term_of accumulate d · q) r.4
          ∙ ·_left_comm (term_of accumulate d) (term_of accumulate r.0) (every rest),
      some p r.5,
    )

    go : (b : Bool) → divides d e ≡ b → (m : Met) → Right e ds m
        → Right e (d ∷ ds) (cond b (met (e / d) ds) (behind d m))
    go true h m r =
        (d, p, quotient-pos d e pos (yes_divides d e h), sym (div-mul_cancel d (yes_divides d e h)), refl, s)
    go false h m r = further m r

module _ (n : ℕ) (s : State) (f : Series) (r : Reached n s f) where
  settled-right : (e : ℕ) (m : Met) → Right e s.unmet m → Reached n (settled s m) (term_of comb e · f)
  unfolding settled
  settled-right e nothing u =
      record {
        factor = term_of comb e · r.factor;
        scales = scales_mul n 2 s.times (term_of comb e) r.factor (scales_comb n e) r.scales;
        whole = ap (λ q. term_of comb e · q) r.whole ∙ sym (·_assoc (term_of comb e) r.factor (every s.unmet));
        sizes = r.sizes;
      }
  settled-right e (met zero rest) u = absurd (omega (arith, u.2))
  settled-right e (met (suc t) rest) u =
      let d = u.0 in
      let down = term_of comb (suc t * d) in
      let up = term_of accumulate d in
      record {
        factor = down · up · r.factor;
        scales = scales_mul n (suc t) s.times (down · up) r.factor (scales_both n d u.1 t) r.scales;
        whole = ap (λ q. term_of comb q · f) u.3 ∙ ap (λ q. down · q) (r.whole ∙ ap (λ q. r.factor · q) u.4)
            ∙ ringˢ (down ∷ r.factor ∷ up ∷ every rest ∷ [])
            (Solver.x :* (Solver.y :* (Solver.z :* Solver.w))) (Solver.x :* Solver.z :* Solver.y :* Solver.w) refl;
        sizes = u.5;
      }

  next-right : (k : Sort) (d : ℕ) → 0 < d → Reached n (next k d s) (term_of k d · f)
  unfolding next every product_of
  next-right comb e p = settled-right e (meet e s.unmet) (meet_right e p r.sizes)
  next-right accumulate d p =
      record {
        factor = r.factor;
        scales = r.scales;
        whole = ap (λ q. term_of accumulate d · q) r.whole
            ∙ ·_left_comm (term_of accumulate d) r.factor (every s.unmet);
        sizes = some p r.sizes;
      }

  enough-right : (w : ℕ) → enough w n s ≡ true → (i : ℕ) → i < n → nat_abs (f i) ≤ w
  unfolding enough
  enough-right w h i l =
      let g = weight s.unmet in
      let under = r.scales.scaled (every s.unmet) g.over (λ k. (k + g.shift) ^ g.power) (over-pos r.sizes)
      (weight_climbs g.shift g.power) (weighed n r.sizes) i l in
      le_of_mul-le-mul_right {k = g.over}
      (rw r.whole
      (le_trans under
      (le_trans (mul-le-mul_left s.times (weight_climbs g.shift g.power i n (omega arith))) (leb-true _ _ h))))
      (over-pos r.sizes)

-- ---- along a list of steps
-- the term of a step that is due up to m, and 1 of one that comes later
abbrev pub due_to : ℕ → ℕ × Sort → Series
due_to m x = cond (leb x.0 m) (term_of x.1 x.0) 𝟙

pub later : (d m : ℕ) → m < d → leb d m ≡ false
later d m l = denies (test_le d m) (λ u. omega arith)

module _ (w n : ℕ) where
  parts : (low : ℕ) (x : ℕ × Sort) (xs : List (ℕ × Sort)) (s : State) → runs w n low (x ∷ xs) s ≡ true
      → (low < x.0) × (enough w n (next x.1 x.0 s) ≡ true) × (runs w n x.0 xs (next x.1 x.0 s) ≡ true)
  unfolding runs
  parts low x xs s h =
      let t = next x.1 x.0 s in
      let rest = test_and (test_true (enough w n t)) (test_true (runs w n x.0 xs t)) in
      let u = (test_and (test_lt low x.0) rest).shows h in
      (u.0, u.1.0, u.1.1)

  -- none is due up to m where m is not above low
  none_due : (m low : ℕ) → m ≤ low → (xs : List (ℕ × Sort)) (s : State) → runs w n low xs s ≡ true
      → product_of (map (due_to m) xs) ≡ 𝟙
  unfolding product_of
  none_due m low l [] s h = refl
  none_due m low l (x ∷ xs) s h =
      let p = parts low x xs s h in
      ap (λ b. cond b (term_of x.1 x.0) 𝟙 · product_of (map (due_to m) xs)) (later x.0 m (omega (arith, p.0)))
      ∙ one_· (product_of (map (due_to m) xs)) ∙ none_due m x.0 (omega arith) xs (next x.1 x.0 s) p.2

  -- up to m, in order, the run goes with the product; the first that is not due finds it as it was tested last
  pub runs-right : (m low : ℕ) (xs : List (ℕ × Sort)) (s : State) (f : Series) → Reached n s f
      → ((i : ℕ) → i < n → nat_abs (f i) ≤ w) → runs w n low xs s ≡ true
      → (i : ℕ) → i < n → nat_abs ((product_of (map (due_to m) xs) · f) i) ≤ w
  unfolding product_of
  runs-right m low [] s f r now h i l = rw (one_· f) (now i l)
  runs-right m low (x ∷ xs) s f r now h i l =
      let p = parts low x xs s h in
      let on = term_of x.1 x.0 in
      let rest = product_of (map (due_to m) xs) in
      let t = next x.1 x.0 s in
      let reached = next-right n s f r x.1 x.0 (omega (arith, p.0)) in
      by_order m x.0
      (λ u. rw (later x.0 m u, none_due m x.0 (omega arith) xs t p.2, one_· 𝟙, one_· f) (now i l))
      (λ u. rw (le-leb x.0 m u, ·_assoc on rest f, ·_left_comm on rest f)
      (runs-right m x.0 xs t (on · f) reached (enough-right n t (on · f) reached w p.1) p.2 i l))
