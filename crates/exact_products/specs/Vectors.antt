-- Products computed from the definitions, weights, digits, and what is told at the range's ends.
use Rattle.std.specs.Prelude.{◌+◌, ◌-◌, ◌^◌, ◌≡◌, refl, true, false, List, [], ◌∷◌, map, ℤ, pos, negsuc, Some, None}
use Rattle.definitions.specs.Integers.{◌⊕◌, ◌⊗◌}
use Rattle.definitions.specs.Series.{◌·◌, firsts}
use Rattle.definitions.specs.Steps.{entries, largest, in_range, some_outside}
use Rattle.light_sums.specs.Parts.{rest}
use Rattle.light_sums.specs.Told.{told}
use Rattle.light_sums.specs.Dots.{dot}
use Rattle.light_sums.specs.Weight.{weight}
use Rattle.digit_sums.specs.Digits.{digit_of, place_to, place, digits, number}

-- 1 - z + 2 z^2, and 2^62 - 1 and -2^62
f : List ℤ
f = pos 1 ∷ negsuc 0 ∷ pos 2 ∷ []

b : List ℤ
b = pos (2 ^ 62 - 1) ∷ negsuc (2 ^ 62 - 1) ∷ []

weighs : weight f ≡ 4
unfolding f weight
weighs = refl

-- the coefficient at 1 is 1 - 2^63, within the range, and that at 3 is -2^63, outside
multiplies : firsts 4 (entries f · entries b)
    ≡ pos (2 ^ 62 - 1) ∷ negsuc (2 ^ 63 - 2) ∷ pos (2 ^ 63 + 2 ^ 62 - 2) ∷ negsuc (2 ^ 63 - 1) ∷ []
unfolding f b firsts ◌·◌ ◌⊕◌ ◌⊗◌ entries
multiplies = refl

outside_at : map (λ n. some_outside largest 0 n (entries f · entries b)) (1 ∷ 2 ∷ 3 ∷ []) ≡ false ∷ false ∷ true ∷ []
unfolding f b some_outside in_range ◌·◌ ◌⊕◌ ◌⊗◌ entries
outside_at = refl

tells : map told (pos (2 ^ 63 - 1) ∷ negsuc (2 ^ 63 - 2) ∷ negsuc (2 ^ 63 - 1) ∷ pos (2 ^ 63) ∷ [])
    ≡ Some (pos (2 ^ 63 - 1)) ∷ Some (negsuc (2 ^ 63 - 2)) ∷ None ∷ None ∷ []
unfolding told in_range
tells = refl

sums : map (dot (entries f) (entries b) 2) (1 ∷ 2 ∷ 3 ∷ [])
    ≡ pos 0 ∷ pos (2 ^ 62) ∷ pos (2 ^ 63 + 2 ^ 62 - 2) ∷ []
unfolding f b dot ◌⊕◌ ◌⊗◌ entries
sums = refl

-- -1 = -2^44 + (2^22 - 1) 2^22 + 2^22 - 1, and -2^63
has_digits : map (λ a. digit_of a (negsuc 0)) (0 ∷ 1 ∷ 2 ∷ 3 ∷ []) ≡ pos 4194303 ∷ pos 4194303 ∷ negsuc 0 ∷ pos 0 ∷ []
unfolding digit_of rest
has_digits = refl

least_digits : map (λ a. digit_of a (negsuc (2 ^ 63 - 1))) (0 ∷ 1 ∷ 2 ∷ []) ≡ pos 0 ∷ pos 0 ∷ negsuc 524287 ∷ []
unfolding digit_of rest
least_digits = refl

by_places : map (λ i. number (place (entries f) (entries b) i) 5 0) (0 ∷ 1 ∷ 2 ∷ 3 ∷ [])
    ≡ firsts 4 (entries f · entries b)
unfolding f b firsts number place_to digits digit_of rest ◌·◌ ◌⊕◌ ◌⊗◌ entries
by_places = refl
