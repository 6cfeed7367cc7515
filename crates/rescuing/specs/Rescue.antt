-- The rescue of a damaged shelf (docs/RULES.md, 'Rescue'): what is kept, which stretches are skipped, and what is
-- answered and left.
use Rattle.std.specs.Prelude.{ℕ, zero, suc, ◌+◌, ◌/◌, Bool, false, cond, ◌||◌, List, [], ◌∷◌, ◌++◌, length, take, drop, eqb, ltb, ℤ}
use Rattle.definitions.specs.Codes.{DONE, SHORT}
use Rattle.definitions.specs.Requests.{zeros}
use Rattle.shelf.specs.Format.{size_in}
use Rattle.keeping.specs.Keepable.{to_next, cramped_to}
use Rattle.rescuing.specs.declared.Rescued.{Rescued}

-- A search, in what is left of a shelf: the bytes it skips; the record it finds, none at the end; and what is left
-- then.
unfoldable pub skipped_by : List ℕ → List ℕ
skipped_by left = take (to_next left) left

abbrev pub size_at : List ℕ → ℕ
size_at [] = 0
size_at (b ∷ bs) = size_in (b ∷ bs)

unfoldable pub found_by : List ℕ → List ℕ
found_by left = take (size_at (drop (to_next left) left)) (drop (to_next left) left)

unfoldable pub left_by : List ℕ → List ℕ
left_by left = drop (size_at (drop (to_next left) left)) (drop (to_next left) left)

-- what is left of a shelf at each search, from the first on to the end; each goes on by a byte at least, so there are
-- no more of them than bytes
unfoldable pub searches_to : ℕ → List ℕ → List (List ℕ)
searches_to zero left = []
searches_to (suc most) [] = []
searches_to (suc most) (b ∷ bs) = (b ∷ bs) ∷ searches_to most (left_by (b ∷ bs))

unfoldable pub searches : List ℕ → List (List ℕ)
searches shelf = searches_to (length shelf) shelf

-- the kept records, in order
unfoldable pub kept_by : List (List ℕ) → List ℕ
kept_by [] = []
kept_by (left ∷ more) = found_by left ++ kept_by more

-- each whole skipped stretch by start and length, two numbers each; an empty one is none
unfoldable pub stretch : (start length : ℕ) → List ℕ
stretch start k = cond (eqb k 0) [] (start ∷ k ∷ [])

unfoldable pub listed_by : (at : ℕ) → List (List ℕ) → List ℕ
listed_by at [] = []
listed_by at (left ∷ more) =
    stretch at (length (skipped_by left)) ++ listed_by (at + length (skipped_by left) + length (found_by left)) more

-- some record tried has too little room for its coefficients
unfoldable pub cramped_by : (room : ℕ) → List (List ℕ) → Bool
cramped_by room [] = false
cramped_by room (left ∷ more) = cramped_to room left || cramped_by room more

-- of a whole shelf
unfoldable pub kept : List ℕ → List ℕ
kept shelf = kept_by (searches shelf)

unfoldable pub listed : List ℕ → List ℕ
listed shelf = listed_by 0 (searches shelf)

-- `room` bytes, `slots` numbers and `entries` coefficients are lent
unfoldable pub rescue_code : List ℕ → (room slots entries : ℕ) → ℕ
rescue_code shelf room slots entries =
    cond (cramped_by entries (searches shelf) || ltb room (length (kept shelf)) || ltb slots (length (listed shelf)))
    SHORT DONE

-- the bytes kept and the number of stretches are 0 on SHORT
unfoldable pub rescue_tells : List ℕ → ℕ → Rescued
rescue_tells shelf code =
    record {
      code = code;
      kept = cond (eqb code DONE) (length (kept shelf)) 0;
      stretches = cond (eqb code DONE) (length (listed shelf) / 2) 0;
    }

unfoldable pub rescue_answer : List ℕ → (room slots entries : ℕ) → Rescued
rescue_answer shelf room slots entries = rescue_tells shelf (rescue_code shelf room slots entries)

-- output and list: untouched past what is written, and on SHORT all of them. The coefficient room ends all zero
unfoldable pub rescue_leaves : List ℕ → List ℕ → (slots entries : ℕ) → List ℕ
rescue_leaves shelf out slots entries =
    cond (eqb (rescue_code shelf (length out) slots entries) DONE) (kept shelf ++ drop (length (kept shelf)) out) out

unfoldable pub rescue_lists : List ℕ → (room : ℕ) → List ℕ → (entries : ℕ) → List ℕ
rescue_lists shelf room list entries =
    cond (eqb (rescue_code shelf room (length list) entries) DONE) (listed shelf ++ drop (length (listed shelf)) list)
    list

abbrev pub rescue_clears : List ℤ → List ℤ
rescue_clears coeffs = zeros (length coeffs)
