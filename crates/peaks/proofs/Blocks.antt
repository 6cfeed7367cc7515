-- A block of a slice that is cut into blocks from `from` on: its entries are the slice's from its place on, so a bound
-- of the slice's magnitudes is one of its own (`block_bounded`), and where none of its own is above h none of the
-- slice's there is (`block_passed`).
use Rattle.std.proofs.Common.{◌≡◌, ℕ, zero, suc, ◌+◌, ◌-◌, ◌*◌, ◌<◌, ◌≤◌, List, [], length, get_or, take, drop, arith}
use Rattle.std.proofs.Common.{ap, sym, ◌∙◌, ℤ, pos}
use Rattle.std.proofs.Math.Nat.{zero-mul, suc-mul}
use Rattle.std.proofs.Math.ListN.{get_or-eq_default, length-take}
use Rattle.std.proofs.lemmas.List.{get_or-take, get_or-drop, drop-drop, take_rest}
use Rattle.std.specs.Simd.{first_chunks}
use Rattle.definitions.specs.Steps.{entries}
use Rattle.step_laws.specs.Bound.{Bounded}
use Rattle.step_laws.specs.Tests.{by_order}
use Rattle.heights.specs.Above.{NoneAbove}

chunk_at : {A : Type 0} (n count k : ℕ) (s : List A) → k < count
    → get_or (first_chunks n count s) k [] ≡ take n (drop (k * n) s)
chunk_at n zero k s l = absurd (omega arith)
chunk_at n (suc count) zero s l = ap (λ j. take n (drop j s)) (sym (zero-mul n))
chunk_at n (suc count) (suc k) s l =
    chunk_at n count k (drop n s) (omega arith)
    ∙ ap (take n) (drop-drop (k * n) n s ∙ ap (λ j. drop j s) (omega (arith, suc-mul k n)))

module _ (cs : List ℤ) (from count : ℕ) (blocks : List (List ℤ))
    (e : blocks ≡ first_chunks 16 count (take (length cs - from) (drop from cs))) (k : ℕ) (l : k < count) where
  abbrev block : List ℤ
  block = get_or blocks k []

  block_is : block ≡ take 16 (drop (from + k * 16) cs)
  block_is =
      ap (λ bs. get_or bs k []) (e ∙ ap (first_chunks 16 count) (take_rest cs from))
      ∙ (chunk_at 16 count k (drop from cs) l ∙ ap (take 16) (drop-drop (k * 16) from cs))

  block_entry : (i : ℕ) → i < 16 → get_or block i (pos 0) ≡ get_or cs (from + k * 16 + i) (pos 0)
  block_entry i b =
      ap (λ s. get_or s i (pos 0)) block_is
      ∙ (get_or-take 16 (drop (from + k * 16) cs) i (pos 0) b ∙ get_or-drop (from + k * 16) cs i (pos 0))

  pub block_bounded : (m : ℕ) → Bounded m (entries cs) → Bounded m (entries block)
  unfolding entries
  block_bounded m low i =
      by_order i 16 (λ b. rw (block_entry i b) (low (from + k * 16 + i)))
      (λ b. let far : length block ≤ i = omega (arith, ap length block_is, length-take 16 (drop (from + k * 16) cs)) in
      rw (get_or-eq_default block (pos 0) far) (omega arith))

  pub block_passed : (h : ℕ) → NoneAbove h block 0 16 → NoneAbove h cs (from + k * 16) (from + (k + 1) * 16)
  block_passed h none = record {
    low = λ j a b.
        let i = j - (from + k * 16) in
        let there : from + k * 16 + i ≡ j = omega arith in
        rw (ap (λ x. get_or cs x (pos 0)) (sym there) ∙ sym (block_entry i (omega arith)))
        (none.low i (omega arith) (omega arith));
  }
