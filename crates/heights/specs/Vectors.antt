-- Heights and peaks of some slices, computed from the definitions.
use Rattle.std.specs.Prelude.{◌≡◌, refl, List, [], ◌∷◌, map, ℤ, pos, negsuc}
use Rattle.definitions.specs.Answer.{height_of, place_of, peak_of}

-- 1, 0, -1 and -2
abbrev p : ℤ
p = pos 1

abbrev o : ℤ
o = pos 0

abbrev n : ℤ
n = negsuc 0

abbrev m : ℤ
m = negsuc 1

-- F(105): -2 stands at degrees 7 and 41, and the largest value, 1, at degree 0 first
F105 : List ℤ
F105 =
    p ∷ p ∷ p ∷ o ∷ o ∷ n ∷ n ∷ m ∷ n ∷ n ∷ o ∷ o ∷ p ∷ p ∷ p ∷ p ∷ p ∷ p ∷ o ∷ o ∷ n ∷ o ∷ n ∷ o ∷ n ∷ o ∷ n ∷ o ∷
    n ∷ o ∷ o ∷ p ∷ p ∷ p ∷ p ∷ p ∷ p ∷ o ∷ o ∷ n ∷ n ∷ m ∷ n ∷ n ∷ o ∷ o ∷ p ∷ p ∷ p ∷ []

slices : List (List ℤ)
slices = [] ∷ (o ∷ o ∷ []) ∷ (o ∷ n ∷ p ∷ []) ∷ (p ∷ m ∷ pos 2 ∷ []) ∷ (pos 3 ∷ p ∷ negsuc 2 ∷ []) ∷ F105 ∷ []

heights : map height_of slices ≡ 0 ∷ 0 ∷ 1 ∷ 2 ∷ 3 ∷ 2 ∷ []
unfolding slices F105 height_of
heights = refl

peaks : map peak_of slices ≡ 0 ∷ 0 ∷ 1 ∷ 1 ∷ 0 ∷ 7 ∷ []
unfolding slices F105 peak_of place_of height_of
peaks = refl
