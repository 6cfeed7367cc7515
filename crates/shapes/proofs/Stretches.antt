-- A pass on a part of a slice, seen entry by entry: before the part nothing changed, and in it stands what the pass
-- left.
use Prim.Native.Nat.{ℕ, ◌+◌, ◌-◌, ◌<◌, ◌≤◌}
use mathlib.Core.Path.{◌≡◌, ◌∙◌, ap}
use mathlib.Core.List.{List, ◌++◌}
use native.Mathlib.Omega.{arith}
use lib.ListN.{length, get_or, take, drop, length-append, length-drop, get_or-append}
use lib.Seq.{get_or-take, get_or-append-add, length-take-le}
use lib.IntN.{ℤ}
use borrow.Rule.Slice.PartMut.{put_mid}
use Rattle.definitions.specs.Integers.{0ℤ}

module _ (a e : ℕ) (xs ys : List ℤ) (h : a ≤ e) (b : e ≤ length xs) (len : length ys ≡ e - a) where
  head_length : length (take a xs) ≡ a
  head_length = length-take-le a xs (omega arith)

  pub put_before : (k : ℕ) → k < a → get_or (put_mid a (e - a) xs ys) k 0ℤ ≡ get_or xs k 0ℤ
  put_before k l =
      get_or-append (take a xs) (ys ++ drop (e - a) (drop a xs)) 0ℤ k (omega (arith, head_length))
      ∙ get_or-take a xs k 0ℤ l

  from_part : (k : ℕ) → a ≤ k → get_or (put_mid a (e - a) xs ys) k 0ℤ ≡ get_or (ys ++ drop (e - a) (drop a xs)) (k - a) 0ℤ
  from_part k l =
      let at : k ≡ length (take a xs) + (k - a) = omega (arith, head_length) in
      ap (λ j. get_or (put_mid a (e - a) xs ys) j 0ℤ) at ∙ get_or-append-add (take a xs) (ys ++ drop (e - a) (drop a xs))
      (k - a) 0ℤ

  pub put_in : (k : ℕ) → a ≤ k → k < e → get_or (put_mid a (e - a) xs ys) k 0ℤ ≡ get_or ys (k - a) 0ℤ
  put_in k l u = from_part k l ∙ get_or-append ys (drop (e - a) (drop a xs)) 0ℤ (k - a) (omega arith)

  pub put_length : length (put_mid a (e - a) xs ys) ≡ length xs
  put_length =
      length-append (take a xs) (ys ++ drop (e - a) (drop a xs))
      ∙ ap (λ j. length (take a xs) + j) (length-append ys (drop (e - a) (drop a xs)))
      ∙ omega (arith, head_length, len, length-drop (e - a) (drop a xs), length-drop a xs)
