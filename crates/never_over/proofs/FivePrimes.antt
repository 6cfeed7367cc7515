-- Five odd primes: for each of the 36 products up to 65,535 the checker runs along the steps of F and of I and finds,
-- at every stop, that no value can be above what is promised (`all_tested`). What a run means is `runs-right` of
-- `Pairs`, that its list has the divisors is `stop-listed` of `Listed`, and that the 36 are all is `of_five` of crate
-- `numbers`.
use Rattle.std.specs.Prelude.{ℕ, ◌+◌, ◌-◌, ◌/◌, ◌≤◌, ◌≡◌, refl, Bool, true, false, cond, ◌&&◌, eqb}
use Rattle.std.proofs.Common.{sym, ⊎_elim, arith}
use mathlib.Core.List.Memᴰ
use mathlib.Core.List.{List, [], ◌∷◌, map, Memᴰ}
use Rattle.definitions.specs.Series.{𝟙}
use Rattle.definitions.specs.Numbers.{divides, k_of}
use Rattle.definitions.specs.Polynomials.{degree}
use Rattle.definitions.specs.KeptHalf.{half_degree, product_of}
use Rattle.series.specs.Laws.{·_one}
use Rattle.numbers.specs.Tests.{test_and, test_true}
use Rattle.numbers.specs.Apart.{OddSquarefree}
use Rattle.numbers.specs.PrimeLists.{product_of_list, phi_of_list, Rising, rising_phi}
use Rattle.numbers.specs.Fives.{fives, of_five}
use Rattle.never_over.specs.Promised.{promised_of, promised_at, promised}
use Rattle.never_over.specs.Scales.{under_one}
use Rattle.never_over.specs.Stops.{Held}
use Rattle.never_over.specs.Weights.{weight}
use Rattle.never_over.specs.Pairs.{meet, behind, settled, next, enough}
use Rattle.never_over.specs.Pairs.{runs, at_start, at_start_lem, due_to, runs-right}
use Rattle.never_over.specs.Listed.{listed, inserted, ascending, step_of, stop-listed}

-- the steps of F or of I, tested at every stop
unfoldable pub passes : Bool → List ℕ → Bool
passes first ps =
    let degree = cond first (phi_of_list ps) (product_of_list ps - phi_of_list ps) in
    runs (promised first 5) (degree / 2 + 1) 0 (map (step_of first) (ascending (listed ps))) at_start

unfoldable pub all_pass : List (List ℕ) → Bool
all_pass [] = true
all_pass (ps ∷ rest) = passes true ps && (passes false ps && all_pass rest)

all_tested : all_pass fives ≡ true
unfolding all_pass passes promised promised_at promised_of fives phi_of_list product_of_list divides step_of ascending inserted
    listed runs next settled meet behind enough weight
all_tested = refl

member_passes : {ps : List ℕ} (all : List (List ℕ)) → Memᴰ ps all → all_pass all ≡ true → (first : Bool)
    → passes first ps ≡ true
unfolding all_pass
member_passes [] m h first = absurd (Memᴰ.not-nil m)
member_passes {ps} (qs ∷ rest) m h first =
    let others = test_and (test_true (passes false qs)) (test_true (all_pass rest)) in
    let t = (test_and (test_true (passes true qs)) others).shows h in
    ⊎_elim (λ e. rw e (both t.0 t.1.0 first)) (λ k. member_passes rest k t.1.1 first)
    (Memᴰ.cases_cons m)
  where
    both : passes true qs ≡ true → passes false qs ≡ true → (first : Bool) → passes first qs ≡ true
    both f i true = f
    both f i false = i

at_least_one : (first : Bool) → 1 ≤ promised first 5
unfolding promised promised_at promised_of
at_least_one true = omega arith
at_least_one false = omega arith

held_listed : {ps : List ℕ} → Rising 2 ps → (kind : ℕ) → passes (eqb kind 1) ps ≡ true
    → Held (promised (eqb kind 1) 5) kind (product_of_list ps)
unfolding passes half_degree degree
held_listed {ps} R kind h m below i l =
    let first = eqb kind 1 in
    let n = half_degree kind (product_of_list ps) + 1 in
    let w = promised first 5 in
    let steps = map (step_of first) (ascending (listed ps)) in
    let tested : runs w n 0 steps at_start ≡ true = rw (rising_phi R) h in
    rw (stop-listed R kind m (omega arith), sym (·_one (product_of (map (due_to m) steps))))
    (runs-right w n m 0 steps at_start 𝟙 (at_start_lem n) (λ k b. omega (arith, under_one n k b, at_least_one first)) tested
    i l)

pub held_five : (r : ℕ) → OddSquarefree r → k_of r ≡ 5 → r ≤ 65535 → (kind : ℕ) → Held (promised (eqb kind 1) 5) kind r
held_five r O five small kind =
    let (ps, listed, R, e) = of_five r O five small in
    rw e at (held_listed R kind (member_passes fives listed all_tested (eqb kind 1)))
