-- An accumulate by rows: the first row, and an entry further.
use mathlib.Core.Path.{◌≡◌, sym, ◌∙◌, ap}
use mathlib.Core.List.{List}
use Prim.Native.Nat.{ℕ, ◌+◌, ◌-◌, ◌<◌, ◌≤◌}
use native.Mathlib.Nat.{not-suc-le-zero}
use native.Mathlib.Omega.{arith}
use lib.ListN.{length, get_or, set, length-set}
use lib.Seq.{get_or-set_same, get_or-set_other}
use lib.IntN.{ℤ}
use Rattle.definitions.specs.Integers.{◌⊕◌, 0ℤ}
use Rattle.definitions.specs.Steps.{accumulate}
use Rattle.entry_steps.proofs.Split.{get_or-set_by}
use Rattle.wrapped_sums.specs.Wrapped.{wrap}
use Rattle.wrapped_combs.specs.Wrapped.{wrap_entry}
use Rattle.wrapped_steps.specs.Upward.{UpTo}
use Rattle.wrapped_steps.specs.Rows.{row_sum, Carried}
use Rattle.wrapped_steps.proofs.Passes.{next_up}

-- the first row
pub carried_first : {d : ℕ} {s a : List ℤ} → d ≤ length s → ((j : ℕ) → j < d → get_or s j 0ℤ ≡ get_or a (0 + j) 0ℤ)
    → Carried d d 0 s a
carried_first {d} {s} {a} room begun =
    record {
      room = room;
      here = λ j h. absurd (not-suc-le-zero h);
      before = λ j h b. begun j b ∙ ap (λ x. get_or a x 0ℤ) (omega arith);
    }

module _ {d k q : ℕ} {s a : List ℤ} (p : Carried d k q s a) where
  -- one entry more
  module _ (b : q < d) (from : d ≤ k) (in' : k + q < length a) where
    abbrev v : ℤ
    v = row_sum s a k q

    carried_next : Carried d k (q + 1) (set s q v) (set a (k + q) v)
    carried_next =
        record {
          room = omega (arith, p.room, length-set s q v);
          here = λ j h. get_or-set_by s q v (omega (arith, p.room)) j _ (stored j)
              (λ ne. p.here j (omega arith) ∙ sym (get_or-set_other a (k + q) (k + j) v 0ℤ (λ e. ne (omega arith))));
          before = λ j h c. get_or-set_other s q j v 0ℤ (λ e. later j e h)
              ∙ p.before j (omega arith) c
              ∙ sym (get_or-set_other a (k + q) (k + j - d) v 0ℤ (λ e. lower j e c));
        }
      where
        stored : (j : ℕ) → j ≡ q → v ≡ get_or (set a (k + q) v) (k + j) 0ℤ
        stored j e = sym (ap (λ x. get_or (set a (k + q) v) (k + x) 0ℤ) e ∙ get_or-set_same a (k + q) v 0ℤ in')

        later : (j : ℕ) → j ≡ q → q + 1 ≤ j → ⊥
        later j e h = omega arith

        lower : (j : ℕ) → k + j - d ≡ k + q → j < d → ⊥
        lower j e c = omega arith

    -- the accumulate has got to it
    value : v ≡ wrap_entry accumulate d a (k + q)
    value = ap (λ y. wrap (get_or a (k + q) 0ℤ ⊕ y)) (p.before q (omega arith) b)

    up_next : {l : List ℤ} → UpTo d l a (k + q) → UpTo d l (set a (k + q) v) (k + (q + 1))
    up_next u =
        let far : k + q + 1 ≡ k + (q + 1) = omega arith in
        rw (value, ← far) (next_up u (omega arith) (omega (arith, u.split.len)))

    pub entry_taken : {s' a' : List ℤ} → s' ≡ set s q v → a' ≡ set a (k + q) v
        → Carried d k (q + 1) s' a' × ((l : List ℤ) → UpTo d l a (k + q) → UpTo d l a' (k + (q + 1)))
    entry_taken e f = rw (e, f) (carried_next, λ l u. up_next u)
