-- The outcomes of the second engine's request: which code each test leads to, and what is then told and left.
use Prim.Native.Nat.{ℕ, suc, ◌+◌, ◌*◌, ◌<◌, ◌≤◌}
use mathlib.Core.Path.{◌≡◌, refl, sym, ◌∙◌, ap}
use mathlib.Core.Bool.{Bool, true, false, cond}
use mathlib.Core.List.{List, ◌++◌}
use native.Mathlib.Omega.{arith}
use borrow.Author.Tests.{lt-ltb, le-ltb, le-leb, lt-leb}
use lib.ListN.{length, drop, length-replicate}
use lib.Dec.{ltb}
use lib.IntN.{ℤ, pos}
use Rattle.std.specs.Prelude.{Ok}
use Rattle.definitions.specs.Integers.{0ℤ}
use Rattle.definitions.specs.Codes.{DONE, KIND, INDEX, LIMIT, SHORT, TALL}
use Rattle.definitions.specs.Polynomials.{degree, polynomial}
use Rattle.definitions.specs.Steps.{below_one}
use Rattle.definitions.specs.Requests.{known_kind, good_index, written, zeros}
use Rattle.definitions.specs.Answer.{coefficients, height, peak, gain}
use Rattle.step_laws.specs.Firsts.{length-firsts}
use Rattle.never_over.proofs.Second.{second_never}
use Rattle.index.proofs.Laws.{index_good}
use Rattle.answers.specs.Second.{code, answered, answer, left, leaves, scratched, scratches}
use Rattle.answers.specs.declared.Answer.{Answer}
use Rattle.answers.proofs.Told.{told-only, same_done, in_front}
use Rattle.laying_out.specs.Laid.{LaidIs}
use Rattle.laying_out.specs.declared.Laid.{Laid}

-- ---- codes
module _ (kind n : ℕ) (h : ℤ) (room scratch : ℕ) where
  pub ask_kind : known_kind kind ≡ false → code kind n h room scratch ≡ KIND
  unfolding code
  ask_kind e = rw e

  pub ask_index : known_kind kind ≡ true → good_index n ≡ false → code kind n h room scratch ≡ INDEX
  unfolding code
  ask_index e f = rw (e, f)

  pub ask_limit : known_kind kind ≡ true → good_index n ≡ true → below_one h ≡ true → code kind n h room scratch ≡ LIMIT
  unfolding code
  ask_limit e f g = rw (e, f, g)

module _ (kind n h room scratch : ℕ) (e : known_kind kind ≡ true) (f : good_index n ≡ true) (g : 1 ≤ h) where
  limit : below_one (pos h) ≡ false
  unfolding below_one
  limit = le-ltb h 1 g

  pub ask_short : room ≤ degree kind n → code kind n (pos h) room scratch ≡ SHORT
  unfolding code
  ask_short b = rw (e, f, limit, le-leb room (degree kind n) b)

  pub ask_scratch : degree kind n < room → scratch < 2 * n + 16 → code kind n (pos h) room scratch ≡ SHORT
  unfolding code
  ask_scratch b c = rw (e, f, limit, lt-leb room (degree kind n) b, lt-ltb scratch (2 * n + 16) c)

  pub ask_last : degree kind n < room → 2 * n + 16 ≤ scratch
      → code kind n (pos h) room scratch ≡ cond (ltb h (height kind n)) TALL DONE
  unfolding code
  ask_last b c =
      rw (
        e,
        f,
        limit,
        lt-leb room (degree kind n) b,
        le-ltb scratch (2 * n + 16) c,
        second_never kind n (index_good n f).0 (index_good n f).1,
      ) refl

-- ---- outcomes
abbrev pub Answers : (kind n : ℕ) (h : ℤ) → Answer → List ℤ → List ℤ → List ℤ → List ℤ → Type 0
Answers kind n h a m l t s =
    (a ≡ answer kind n h (length l) (length s))
    × ((m ≡ leaves kind n h l (length s)) × (t ≡ scratches kind n h (length l) s))

module _ (kind n : ℕ) (h : ℤ) (l s : List ℤ) where
  by_code : (c : ℕ) {a : Answer} {m t : List ℤ} → a ≡ answered kind n c → m ≡ left kind n c l → t ≡ scratched c s
      → code kind n h (length l) (length s) ≡ c → Answers kind n h a m l t s
  unfolding answer leaves scratches
  by_code c p q r e =
      (p ∙ ap (answered kind n) (sym e), (q ∙ ap (λ x. left kind n x l) (sym e), r ∙ ap (λ x. scratched x s) (sym e)))

  pub at_kind : code kind n h (length l) (length s) ≡ KIND → Answers kind n h (told-only KIND 0) l l s s
  unfolding answered left scratched
  at_kind = by_code KIND refl refl refl

  pub at_index : code kind n h (length l) (length s) ≡ INDEX → Answers kind n h (told-only INDEX 0) l l s s
  unfolding answered left scratched
  at_index = by_code INDEX refl refl refl

  pub at_limit : code kind n h (length l) (length s) ≡ LIMIT → Answers kind n h (told-only LIMIT 0) l l s s
  unfolding answered left scratched
  at_limit = by_code LIMIT refl refl refl

  pub at_short : code kind n h (length l) (length s) ≡ SHORT
      → Answers kind n h (told-only SHORT (degree kind n)) l l s s
  unfolding answered left scratched
  at_short = by_code SHORT refl refl refl

  at_tall : code kind n h (length l) (length s) ≡ TALL
      → Answers kind n h (told-only TALL (degree kind n)) (written (zeros (suc (degree kind n))) l) l
      (zeros (length s)) s
  unfolding answered left scratched
  at_tall = by_code TALL refl refl refl

  at_done : code kind n h (length l) (length s) ≡ DONE
      → Answers kind n h
      (record {
        code = DONE;
        degree = degree kind n;
        additions = 0;
        height = height kind n;
        peak = peak kind n;
        gain = gain kind n;
      }) (written (coefficients kind n) l) l (zeros (length s)) s
  unfolding answered left scratched
  at_done = by_code DONE refl refl refl

-- ---- after the making
module _
    (kind n h : ℕ) (l s : List ℤ) (e : known_kind kind ≡ true) (f : good_index n ≡ true) (g : 1 ≤ h) (d : ℕ)
    (ed : d ≡ degree kind n) (room : d < length l) (enough : 2 * n + 16 ≤ length s)
    (m t : List ℤ) (clear : t ≡ zeros (length s))
  where
    by_height : (b : Bool) → ltb h (height kind n) ≡ b → code kind n (pos h) (length l) (length s) ≡ cond b TALL DONE
    by_height b q =
        ask_last kind n h (length l) (length s) e f g (omega arith) enough ∙ ap (λ x. cond x TALL DONE) q

    pub refuses : h < height kind n → m ≡ zeros (suc (degree kind n))
        → Answers kind n (pos h) (told-only TALL d) (m ++ drop (d + 1) l) l t s
    unfolding zeros
    refuses tall z =
        let y = at_tall kind n (pos h) l s (by_height true (lt-ltb h (height kind n) tall)) in (
          ap (told-only TALL) ed ∙ y.0,
          (
            in_front l (zeros (suc (degree kind n))) ed (length-replicate (suc (degree kind n)) 0ℤ) z ∙ y.1.0,
            clear ∙ y.1.1,
          ),
        )

    pub delivers : (r : Laid) → LaidIs kind n h m (Ok r) → (x : ℤ) → x ≡ gain kind n
        → Answers kind n (pos h)
        (record { code = DONE; degree = d; additions = 0; height = r.height; peak = r.peak; gain = x })
        (m ++ drop (d + 1) l) l t s
    unfolding coefficients
    delivers r laid x is =
        let y = at_done kind n (pos h) l s (by_height false (le-ltb h (height kind n) laid.0)) in (
          same_done ed refl (ap (λ v. v.height) laid.2) (ap (λ v. v.peak) laid.2) is ∙ y.0,
          (
            in_front l (coefficients kind n) ed (length-firsts (suc (degree kind n)) (polynomial kind n)) laid.1 ∙ y.1.0,
            clear ∙ y.1.1,
          ),
        )
