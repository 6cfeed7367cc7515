-- Which record is kept (docs/RULES.md, 'Rescue'): one that reads without refusal and whose coefficients are those of
-- its kind and index. And the search for the next one, byte by byte.
use Rattle.std.specs.Prelude.{ℕ, zero, suc, Bool, false, cond, not, ◌&&◌, ◌||◌, List, [], ◌∷◌, eqb, ltb, ℤ}
use Rattle.definitions.specs.Codes.{DONE}
use Rattle.definitions.specs.Steps.{entries}
use Rattle.definitions.specs.Answer.{coefficients}
use Rattle.definitions.specs.Halves.{differ}
use Rattle.record.specs.Header.{kind_in, index_in, count_in}
use Rattle.forms.specs.declared.Form.TheVariants.{Whole}
use Rattle.forms.specs.Format.{coefficients_in}
use Rattle.shelf.specs.Format.{look_code}

-- one of the first k of some coefficients is another than in a second list
unfoldable pub differ_to : ℕ → List ℤ → List ℤ → Bool
differ_to zero cs ds = false
differ_to (suc k) cs ds = differ_to k cs ds || differ (entries cs k) (entries ds k)

-- some bytes start with a record whose coefficients are not those that a request for its kind and index delivers
unfoldable pub another : List ℕ → Bool
another bytes = differ_to (count_in bytes) (coefficients_in Whole bytes) (coefficients (kind_in bytes) (index_in bytes))

-- with one that reads without refusal, room for its coefficients left aside, and whose coefficients are those
unfoldable pub keepable : List ℕ → Bool
keepable bytes = eqb (look_code bytes) DONE && not (another bytes)

-- with one that otherwise reads well, but has more coefficients than there is room for
unfoldable pub cramped : (room : ℕ) → List ℕ → Bool
cramped room bytes = eqb (look_code bytes) DONE && ltb room (count_in bytes)

-- how far it is to the next record that is kept, or to the end where there is none
unfoldable pub to_next : List ℕ → ℕ
to_next [] = 0
to_next (b ∷ bs) = cond (keepable (b ∷ bs)) 0 (suc (to_next bs))

-- for one of those tried on the way, that one among them, there is too little room
unfoldable pub cramped_to : (room : ℕ) → List ℕ → Bool
cramped_to room [] = false
cramped_to room (b ∷ bs) = cramped room (b ∷ bs) || (not (keepable (b ∷ bs)) && cramped_to room bs)
