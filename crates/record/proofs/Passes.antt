-- One turn of each loop. A pass that stores has the invariant: what is still to be stored, stored now, gives what the
-- whole pass gives; so a turn is the definition's own step. A pass that looks has the same with the largest so far.
use Prim.Native.Nat.{ℕ, zero, suc, ◌+◌, ◌*◌, ◌-◌, ◌/◌, ◌%◌, ◌<◌, ◌≤◌, ◌^◌, max}
use mathlib.Core.Path.{◌≡◌, refl, sym, ap, ◌∙◌}
use mathlib.Core.Bool.{true}
use mathlib.Core.List.{List, [], ◌∷◌, ◌++◌}
use native.Mathlib.Omega.{arith}
use native.Mathlib.Numerals.{add-one}
use native.Mathlib.Nat.{add-zero, zero-mul, one-mul, suc-mul, mul-suc, mul-add, mul_assoc, mul-le-mul_left, mul-le-mul_right}
use native.Mathlib.Nat.{zero-max, max-zero}
use lib.Bits.{bit_or}
use lib.Pow.{pow-add}
use lib.ListN.{length, get_or, set, take, drop, length-append, length-drop, drop_of_length-le}
use Rattle.std.proofs.lemmas.List.{append-nil}
use lib.Seq.{sets, sets-eq, drop-cons, drop-drop, take-add, length-take-le}
use lib.IntN.{ℤ, pos, nat_abs}
use Rattle.definitions.specs.Answer.{height_of}
use Rattle.definitions.specs.Steps.{entries}
use Rattle.heights.proofs.Looks.{height-left}
use Rattle.widths.specs.Numbers.{bytes_of, number, twos, signed_of, body, coefficients_at, widths, one_of}
use Rattle.widths.specs.Classes.{class}
use Rattle.widths.proofs.Widths.{full_suc}
use Rattle.widths.proofs.Classes.{class-none, class-or, lesser_less}
use Rattle.widths.proofs.Digits.{length-bytes_of}
use Rattle.record.specs.Held.{number_at, Held}

-- a number put, up to e: the lowest byte first
pub put_turn : (b : List ℕ) (i e v : ℕ) → i < e → sets (set b i (v % 256)) (i + 1) (bytes_of (e - (i + 1)) (v / 256))
    ≡ sets b i (bytes_of (e - i) v)
unfolding bytes_of
put_turn b i e v h =
    let more : e - i ≡ suc (e - (i + 1)) = omega arith in
    rw (more, add-one)

pub put_none : (b : List ℕ) (i e v : ℕ) → e ≤ i → sets b i (bytes_of (e - i) v) ≡ b
unfolding bytes_of
put_none b i e v h =
    let none : e - i ≡ 0 = omega arith in
    rw none

-- a number got: of one byte, and of two halves
pub byte_in : (bs : List ℕ) (at : ℕ) → at < length bs → number_at 1 at bs ≡ get_or bs at 0
unfolding number
byte_in bs at h = rw (drop-cons bs at 0 h) (add-zero (get_or bs at 0))

pub got_one : (bs : List ℕ) (at b : ℕ) → at + 1 ≤ length bs → b ≡ get_or bs at 0 → b < 256 → Held 1 at bs b
got_one bs at b h e small = (e ∙ sym (byte_in bs at (omega arith)), small)

number_append : (xs ys : List ℕ) → number (xs ++ ys) ≡ number xs + 2 ^ (8 * length xs) * number ys
unfolding number
number_append [] ys = omega (arith, one-mul (number ys))
number_append (x ∷ xs) ys =
    rw (number_append xs ys, full_suc (length xs), mul_assoc 256 (2 ^ (8 * length xs)) (number ys)) (omega arith)

pub got_two : (w at : ℕ) (bs : List ℕ) (low high : ℕ) → at + (w + w) ≤ length bs → Held w at bs low
    → Held w (at + w) bs high → Held (w + w) at bs (low + 2 ^ (8 * w) * high)
got_two w at bs low high h (el, sl) (eh, sh) =
    let p = 2 ^ (8 * w) in
    let l = drop at bs in
    let long : length (take w l) ≡ w = length-take-le w l (rw length-drop (omega arith)) in
    let square : 2 ^ (8 * (w + w)) ≡ p * p = ap (λ (k : ℕ). 2 ^ k) (mul-add 8 w w) ∙ pow-add 2 (8 * w) (8 * w) in (
      rw (take-add w w l, number_append (take w l) (take w (drop w l)), long, drop-drop w at bs, el, eh),
      rw square (omega (arith, mul-le-mul_left p sh, mul-suc p high)),
    )

-- the store, of a slice's coefficients
pub sets-append : {A : Type 0} (l : List A) (i : ℕ) (xs ys : List A) → sets l i (xs ++ ys)
    ≡ sets (sets l i xs) (i + length xs) ys
sets-append l i [] ys = rw add-zero
sets-append l i (x ∷ xs) ys =
    let e : suc i + length xs ≡ i + suc (length xs) = omega arith in
    sets-append (set l i x) (suc i) xs ys ∙ ap (λ (k : ℕ). sets (sets (set l i x) (suc i) xs) k ys) e

pub body_cons : (w : ℕ) (cs : List ℤ) (i : ℕ) → i < length cs →
    body w (drop i cs) ≡ bytes_of w (twos w (get_or cs i (pos 0))) ++ body w (drop (i + 1) cs)
unfolding body
body_cons w cs i l = rw (drop-cons cs i (pos 0), add-one)

pub body-turn : (w : ℕ) (cs : List ℤ) (b : List ℕ) (at i : ℕ) → i < length cs →
    sets (sets b at (bytes_of w (twos w (get_or cs i (pos 0))))) (at + w) (body w (drop (i + 1) cs))
    ≡ sets b at (body w (drop i cs))
body-turn w cs b at i l =
    let c = twos w (get_or cs i (pos 0)) in
    let e : at + length (bytes_of w c) ≡ at + w = ap (λ (k : ℕ). at + k) (length-bytes_of w c) in
    sym (rw (body_cons w cs i l) (sets-append b at (bytes_of w c) (body w (drop (i + 1) cs)))
    ∙ ap (λ (k : ℕ). sets (sets b at (bytes_of w c)) k (body w (drop (i + 1) cs))) e)

pub body-none : (w : ℕ) (cs : List ℤ) (b : List ℕ) (at i : ℕ) → length cs ≤ i → sets b at (body w (drop i cs)) ≡ b
unfolding body
body-none w cs b at i h = rw (drop_of_length-le cs h)

-- entry i of k, in w bytes each, stands within all of them
pub room : (w k i : ℕ) → i < k → i * w + w ≤ k * w
room w k i l = omega (arith, suc-mul i w, mul-le-mul_right w l)

-- where the next one stands
pub next_place : (w i : ℕ) → 10 + (i + 1) * w ≡ 10 + i * w + w
next_place w i = rw add-one (omega (arith, suc-mul i w))

-- entry i of some stands i * w bytes behind the first
entry_in : (w k i : ℕ) (bs : List ℕ) → i < k
    → signed_of w (number (take w (drop (i * w) bs))) ≡ entries (coefficients_at w k bs) i
unfolding coefficients_at entries
entry_in w zero i bs l = absurd (omega arith)
entry_in w (suc k) zero bs l = rw zero-mul
entry_in w (suc k) (suc i) bs l =
    let sum : suc i * w ≡ w + i * w = omega (arith, suc-mul i w) in
    rw (sum, ← drop-drop (i * w) w bs) (entry_in w k i (drop w bs) (omega arith))

pub entry_at : (w k i : ℕ) (bs : List ℕ) → i < k
    → signed_of w (number (take w (drop (10 + i * w) bs))) ≡ entries (coefficients_at w k (drop 10 bs)) i
entry_at w k i bs l = rw (← drop-drop (i * w) 10 bs) (entry_in w k i (drop 10 bs) l)

-- the look: the class of some height, and what is left from entry i on
abbrev pub Looked : ℕ → List ℤ → ℕ → ℕ → Type 0
Looked w cs all i = (h : ℕ) × (all ≡ class w h) × (max h (height_of (drop i cs)) ≡ height_of cs)

pub look_none : (w : ℕ) (cs : List ℤ) → Looked w cs 0 0
look_none w cs = (0, sym (class-none w), zero-max _)

pub look_turn : (w i all c : ℕ) (cs : List ℤ) → one_of widths w ≡ true → i < length cs
    → c ≡ class w (nat_abs (entries cs i)) → Looked w cs all i → Looked w cs (bit_or all c) (i + 1)
unfolding entries
look_turn w i all c cs o l ec (h, ea, e) =
    let x = nat_abs (get_or cs i (pos 0)) in (
      max h x,
      rw (ea, ec) (class-or w h x (lesser_less w o)),
      omega (arith, e, height-left cs i l),
    )

pub look_all : (w i all : ℕ) (cs : List ℤ) → length cs ≤ i → Looked w cs all i → all ≡ class w (height_of cs)
unfolding height_of
look_all w i all cs l (h, ea, e) =
    ea ∙ ap (class w) (sym (max-zero h) ∙ (rw (drop_of_length-le cs l) at e))

-- the store of some, from entry i on
pub fill_turn : (i : ℕ) (all cs : List ℤ) {c : ℤ} → i < length all → c ≡ entries all i
    → sets (set cs i c) (i + 1) (drop (i + 1) all) ≡ sets cs i (drop i all)
unfolding entries
fill_turn i all cs l e = rw (e, drop-cons all i (pos 0) l, add-one)

pub fill_none : (i : ℕ) (all cs : List ℤ) → length all ≤ i → sets cs i (drop i all) ≡ cs
fill_none i all cs l = rw (drop_of_length-le all l)

-- how many there are
pub length-body : (w : ℕ) (cs : List ℤ) → length (body w cs) ≡ length cs * w
unfolding body
length-body w [] = sym (zero-mul w)
length-body w (c ∷ cs) = rw (length-append, length-bytes_of, length-body w cs, suc-mul) (omega arith)

pub length_at : (w k : ℕ) (bs : List ℕ) → length (coefficients_at w k bs) ≡ k
unfolding coefficients_at
length_at w zero bs = refl
length_at w (suc k) bs = ap suc (length_at w k (drop w bs))

-- what is put over the first k of some
pub sets_over : {A : Type 0} (cs xs : List A) (k : ℕ) → length xs ≡ k → k ≤ length cs
    → xs ++ drop k cs ≡ sets cs 0 xs
sets_over cs xs k e h =
    let all : 0 + length xs ≡ k = omega arith in
    rw (sets-eq xs cs 0 (omega arith), all)

-- is put over them all
pub sets_front : {A : Type 0} (cs xs : List A) (k : ℕ) → length xs ≡ k → k ≤ length cs
    → sets (take k cs) 0 xs ++ drop k cs ≡ sets cs 0 xs
sets_front {A = A} cs xs k e h =
    let short : length (take k cs) ≡ k = length-take-le k cs h in
    let past : drop k (take k cs) ≡ [] = drop_of_length-le (take k cs) (omega arith) in
    ap (λ (l : List A). l ++ drop k cs) (sym (sets_over (take k cs) xs k e (omega arith)) ∙ rw past (append-nil xs))
    ∙ sets_over cs xs k e h
