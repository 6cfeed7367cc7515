-- A slice that was multiplied by a series, modulo 2^64 and as far as it goes; one product after the other; and what the
-- recursion over the primes is asked with.
use Prim.Native.Nat.{ℕ, zero, suc, ◌*◌, ◌<◌, ◌≤◌}
use Rattle.std.specs.Prelude.{◌≡◌, List, length, get_or, ℤ}
use Rattle.std.proofs.Common.{sym, ◌∙◌}
use Rattle.std.proofs.Math.Path.{ap}
use Rattle.std.proofs.Math.Nat as NatL
use native.Mathlib.Omega.{arith}
use Rattle.definitions.specs.Series.{Series, ◌·◌}
use Rattle.definitions.specs.Steps.{Sort, entries}
use Rattle.definitions.specs.KeptHalf.{term_of}
use Rattle.series.specs.Laws.{·_assoc}
use Rattle.cyclotomic.specs.Kept.{step-term}
use Rattle.wrapped_sums.specs.Wrapped.{wrap, Like, AllFit}
use Rattle.wrapped_combs.specs.Wrapped.{wrapped_list}
use Rattle.wrapped_combs.specs.Laws.{length_wrapped, wrapped_fit, wrapped_like}
use Rattle.definitions.specs.Numbers.{row_to}

-- m is l times g: as many entries, each a 64-bit number where those of l are, and where l is f modulo 2^64, m is g f
pub record Multiplied (g : Series) (l m : List ℤ) : Type 0 where
  pub len : length m ≡ length l
  pub fit : AllFit l → AllFit m
  pub like : (f : Series) → Like (length l) (entries l) f → Like (length l) (entries m) (g · f)

pub step_multiplies : (s : Sort) (d : ℕ) → 1 ≤ d → (l m : List ℤ) → m ≡ wrapped_list s d l → Multiplied (term_of s d) l m
step_multiplies s d one l m e =
    rw e
    (record {
      len = length_wrapped s d l;
      fit = wrapped_fit s d l;
      like = λ f h i b. wrapped_like s d l f one h i b ∙ ap (λ q. wrap (q i)) (step-term s d one f);
    })

pub both_multiply : {g h : Series} {l m q : List ℤ} → Multiplied g l m → Multiplied h m q → Multiplied (h · g) l q
both_multiply {g} {h} {l} {m} {q} a b =
    record {
      len = b.len ∙ a.len;
      fit = λ f. b.fit (a.fit f);
      like = λ f k i c.
          b.like (g · f) (λ j d. a.like f k j (omega (arith, a.len))) i (omega (arith, a.len))
          ∙ ap (λ s. wrap (s i)) (sym (·_assoc h g f));
    }

pub multiplied_as : {g h : Series} {l m : List ℤ} → g ≡ h → Multiplied g l m → Multiplied h l m
multiplied_as e a = rw e at a

-- what is asked of a row of k numbers and a size: the largest size that they make is an index at most
pub record Due (l : List ℕ) (k s : ℕ) : Type 0 where
  pub few : k ≤ 5
  pub size : 1 ≤ s
  pub each : (i : ℕ) → i < k → 1 ≤ get_or l i 0
  pub most : s * row_to l k ≤ 65535

module _ (l : List ℕ) where
  row_positive : (k : ℕ) → ((i : ℕ) → i < k → 1 ≤ get_or l i 0) → 1 ≤ row_to l k
  unfolding row_to
  row_positive zero h = omega arith
  row_positive (suc k) h = NatL.mul-pos (row_positive k (λ i b. h i (omega arith))) (h k (omega arith))

  module _ (k s : ℕ) (d : Due l (suc k) s) where
    each_less : (i : ℕ) → i < k → 1 ≤ get_or l i 0
    each_less i b = d.each i (omega arith)

    moved : s * get_or l k 0 * row_to l k ≡ s * row_to l (suc k)
    unfolding row_to
    moved = NatL.mul_assoc s (get_or l k 0) (row_to l k) ∙ ap (λ a. s * a) (NatL.mul_comm (get_or l k 0) (row_to l k))

    pub due_larger : Due l k (s * get_or l k 0)
    due_larger =
        record {
          few = omega (arith, d.few);
          size = NatL.mul-pos d.size (d.each k (omega arith));
          each = each_less;
          most = rw moved d.most;
        }

    pub larger_small : s * get_or l k 0 ≤ 65535
    larger_small =
        NatL.le_trans (NatL.le-mul_of_pos_right (s * get_or l k 0) (row_positive k each_less)) due_larger.most

    pub due_same : Due l k s
    unfolding row_to
    due_same =
        record {
          few = omega (arith, d.few);
          size = d.size;
          each = each_less;
          most =
              NatL.le_trans
              (NatL.mul-le-mul_left s (NatL.le-mul_of_pos_right (row_to l k) (d.each k (omega arith)))) d.most;
        }

  -- a size with no number is an index at most
  pub due_small : (k s : ℕ) → Due l k s → s ≤ 65535
  due_small k s d = NatL.le_trans (NatL.le-mul_of_pos_right s (row_positive k d.each)) d.most
