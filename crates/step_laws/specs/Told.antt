-- What a step asked for on its own tells and leaves, by the ways that it can go: STEP, LIMIT, OVER, or done.
use Rattle.std.specs.Prelude.{◌≡◌, true, false, List, ℕ, ◌-◌, ◌<◌, ◌≤◌, length, ℤ, nat_abs, eqb}
use Rattle.std.proofs.Math.Path.{sym}
use Rattle.std.proofs.Common.{◌∙◌, ap, arith}
use Rattle.std.proofs.Math.Bool.{cond, or-true}
use borrow.Author.Tests.{lt-ltb, le-ltb, eq-eqb, ne_eqb}
use Rattle.definitions.specs.Codes.{DONE, LIMIT, OVER, STEP}
use Rattle.definitions.specs.Steps.{Sort, step_over, step_list, below_one, step_code, step_count, step_leaves}
use Rattle.step_laws.specs.Step.{long-not-over, long_stays}

-- the code, the count and the entries that docs/RULES.md asks of this step
pub record Told (w : ℤ) (s : Sort) (d : ℕ) (l : List ℤ) (told counted : ℕ) (m : List ℤ) : Type 0 where
  pub code : told ≡ step_code w s d l
  pub count : counted ≡ step_count w s d l
  pub leaves : m ≡ step_leaves w s d l

none : {d : ℕ} → d ≡ 0 → 1 ≤ d → ⊥
none e one = omega arith

nothing : {n d : ℕ} → n ≤ d → n - d ≡ 0
nothing h = omega arith

module _ (w : ℤ) (s : Sort) (d : ℕ) (l : List ℤ) where
  -- the code says the rest
  told_by : {c : ℕ} → step_code w s d l ≡ c
      → Told w s d l c (cond (eqb c DONE) (length l - d) 0) (cond (eqb c DONE) (step_list s d l) l)
  unfolding step_count step_leaves
  told_by e = record { code = sym e; count = rw e; leaves = rw e }

  code-zero : d ≡ 0 → step_code w s d l ≡ STEP
  unfolding step_code
  code-zero h = rw (eq-eqb d 0 h)

  code_large : 65535 < d → step_code w s d l ≡ STEP
  unfolding step_code
  code_large h =
      rw (lt-ltb 65535 d h)
      (ap (λ b. cond b STEP (cond (below_one w) LIMIT (cond (step_over (nat_abs w) s d l) OVER DONE))) (or-true (eqb d 0)))

  -- a size of 0 or above 65,535
  pub told-zero : d ≡ 0 → Told w s d l STEP 0 l
  told-zero h = told_by (code-zero h)

  pub told_large : 65535 < d → Told w s d l STEP 0 l
  told_large h = told_by (code_large h)

  -- a good size
  module _ (one : 1 ≤ d) (most : d ≤ 65535) where
    code-size : step_code w s d l ≡ cond (below_one w) LIMIT (cond (step_over (nat_abs w) s d l) OVER DONE)
    unfolding step_code
    code-size = rw (ne_eqb d 0 (λ e. none e one), le-ltb 65535 d most)

    -- a limit below 1
    pub told_limit : below_one w ≡ true → Told w s d l LIMIT 0 l
    told_limit b = told_by (code-size ∙ ap (λ b. cond b LIMIT (cond (step_over (nat_abs w) s d l) OVER DONE)) b)

    -- and a good one: a value passes it, or none
    module _ (good : below_one w ≡ false) where
      code_good : step_code w s d l ≡ cond (step_over (nat_abs w) s d l) OVER DONE
      code_good = code-size ∙ ap (λ b. cond b LIMIT (cond (step_over (nat_abs w) s d l) OVER DONE)) good

      pub told_over : step_over (nat_abs w) s d l ≡ true → Told w s d l OVER 0 l
      told_over o = told_by (code_good ∙ ap (λ b. cond b OVER DONE) o)

      pub told_done : step_over (nat_abs w) s d l ≡ false → Told w s d l DONE (length l - d) (step_list s d l)
      told_done o = told_by (code_good ∙ ap (λ b. cond b OVER DONE) o)

      -- a size that is at least the length
      pub told-long : length l ≤ d → Told w s d l DONE 0 l
      told-long h =
          let t = told_done (long-not-over s d l (nat_abs w) h) in
          record { code = t.code; count = sym (nothing h) ∙ t.count; leaves = sym (long_stays s d l h) ∙ t.leaves }
