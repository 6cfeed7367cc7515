-- A run over a piece of input, byte by byte: what has been taken and printed so far, and that one byte more keeps it
-- so.
use mathlib.Core.Path.{◌≡◌, refl, sym, ◌∙◌, ap, ap₂}
use mathlib.Core.Bool.{true, false, ◌&&◌, and-false}
use mathlib.Core.List.{List, [], ◌∷◌, ◌++◌, append_assoc, append-nil}
use Prim.Native.Nat.{ℕ, suc, ◌+◌, ◌-◌, ◌<◌, ◌≤◌}
use native.Mathlib.Nat.{not-suc-le-zero}
use native.Mathlib.Numerals.{add-one}
use native.Mathlib.Omega.{arith}
use borrow.Author.Tests.{eq-eqb, ne_eqb, lt-ltb, le-ltb}
use lib.ListN.{length, get_or, take, drop, drop_of_length-le}
use lib.Seq.{take-suc, take-take, take-add, drop-cons, length-sets}
use lib.Dec.{eqb, ltb}
use Rattle.text.specs.Text.{NEWLINE}
use Rattle.listing.specs.Reply.{MOST}
use Rattle.line_so_far.specs.OpenLine.{pushed, next_line}
use Rattle.line_so_far.specs.declared.Line.{Line}
use Rattle.listing.specs.Stream.{closing, step, says, after, printed, taken}
use Rattle.text.specs.Puts.{Puts}
use Rattle.listing.specs.Ran.{Ran}
use Rattle.listing.specs.declared.Progress.{Progress}
use Rattle.text.proofs.Putting.{then, nothing_put}

pub after-append : (s : Line) (xs ys : List ℕ) → after s (xs ++ ys) ≡ after (after s xs) ys
unfolding after
after-append s [] ys = refl
after-append s (b ∷ xs) ys = after-append (step s b) xs ys

-- the line s after the first bytes of a piece goes on over some of those that are left of it
pub after-part : (line s : Line) (piece : List ℕ) (from n rest : ℕ) → s ≡ after line (take from piece) → n ≤ rest
    → after s (take n (take rest (drop from piece))) ≡ after line (take (from + n) piece)
after-part line s piece from n rest e h =
    ap₂ after e (take-take n rest (drop from piece) h)
    ∙ sym (ap (after line) (take-add from n piece) ∙ after-append line (take from piece) (take n (drop from piece)))

pub printed-append : (s : Line) (xs ys : List ℕ) → printed s (xs ++ ys) ≡ printed s xs ++ printed (after s xs) ys
unfolding printed after
printed-append s [] ys = refl
printed-append s (b ∷ xs) ys =
    ap (λ r. says s b ++ r) (printed-append (step s b) xs ys)
    ∙ sym (append_assoc (says s b) (printed (step s b) xs) (printed (after (step s b) xs) ys))

after_one : (s : Line) (xs : List ℕ) (b : ℕ) → after s (xs ++ (b ∷ [])) ≡ step (after s xs) b
unfolding after
after_one s xs b = after-append s xs (b ∷ [])

printed-one : (s : Line) (xs : List ℕ) (b : ℕ) → printed s (xs ++ (b ∷ [])) ≡ printed s xs ++ says (after s xs) b
unfolding printed
printed-one s xs b = printed-append s xs (b ∷ []) ∙ ap (λ r. printed s xs ++ r) (append-nil (says (after s xs) b))

taken_on : (room : ℕ) (s : Line) (b : ℕ) (bs : List ℕ) → (eqb b NEWLINE && ltb room MOST) ≡ false
    → taken room s (b ∷ bs) ≡ 1 + taken (room - length (says s b)) (step s b) bs
unfolding taken
taken_on room s b bs e = rw e

taken_none : (room : ℕ) (s : Line) (b : ℕ) (bs : List ℕ) → (eqb b NEWLINE && ltb room MOST) ≡ true
    → taken room s (b ∷ bs) ≡ 0
unfolding taken
taken_none room s b bs e = rw e

module _ (line : Line) (piece l : List ℕ) where
  -- i bytes of the piece taken, the line s open, m in the buffer up to `made`
  pub record Going (m : List ℕ) (s : Line) (i made : ℕ) : Type 0 where
    pub within : i ≤ length piece
    pub left : s ≡ after line (take i piece)
    pub puts : Puts (printed line (take i piece)) 0 l m made
    pub fits : made ≤ length l
    pub same : length m ≡ length l
    pub rest : taken (length l) line piece ≡ i + taken (length l - made) s (drop i piece)

  pub going_start : Going l line 0 0
  unfolding after printed
  going_start =
      record {
        within = omega arith;
        left = refl;
        puts = nothing_put 0 l;
        fits = omega arith;
        same = refl;
        rest = rw (less (length l)) (omega arith);
      }
    where
      less : (n : ℕ) → n - 0 ≡ n
      less n = omega arith

  module _ {m : List ℕ} {s : Line} {i made : ℕ} (g : Going m s i made) where
    -- a run that has come to the end of the piece
    pub ends : length piece ≤ i → Ran line piece l m (record { line = s; taken = i; made = made })
    unfolding taken
    ends h =
        record {
          took = sym (g.rest ∙ ap (λ p. i + taken (length l - made) s p) (drop_of_length-le piece h) ∙ plus i);
          left = g.left;
          puts = g.puts;
          within = g.within;
          fits = g.fits;
        }
      where
        plus : (i : ℕ) → i + 0 ≡ i
        plus i = omega arith

    module _ (here : i < length piece) where
      -- one that stops at a newline
      pub stops : get_or piece i 0 ≡ NEWLINE → length m - made < MOST
          → Ran line piece l m (record { line = s; taken = i; made = made })
      stops e h =
          record {
            took = sym (g.rest ∙ ap (λ p. i + taken (length l - made) s p) (drop-cons piece i 0 here)
                ∙ ap (λ k. i + k) (taken_none (length l - made) s (get_or piece i 0) (drop (suc i) piece) full) ∙ plus i);
            left = g.left;
            puts = g.puts;
            within = g.within;
            fits = g.fits;
          }
        where
          full : (eqb (get_or piece i 0) NEWLINE && ltb (length l - made) MOST) ≡ true
          full = simp (eq-eqb (get_or piece i 0) NEWLINE e, lt-ltb (length l - made) MOST (omega (arith, g.same)))

          plus : (i : ℕ) → i + 0 ≡ i
          plus i = omega arith

      goes : {m' : List ℕ} {made' : ℕ} → (eqb (get_or piece i 0) NEWLINE && ltb (length l - made) MOST) ≡ false
          → Puts (says s (get_or piece i 0)) made m m' made' → made' ≤ length l
          → Going m' (step s (get_or piece i 0)) (i + 1) made'
      goes {m'} {made'} e p h =
          record {
            within = omega arith;
            left = ap (λ x. step x (get_or piece i 0)) g.left
                ∙ sym (rw (one) (after_one line (take i piece) (get_or piece i 0)));
            puts = rw (one, printed-one line (take i piece) (get_or piece i 0), ← g.left) (then g.puts p);
            fits = h;
            same = ap length p.leaves ∙ length-sets m made (says s (get_or piece i 0)) ∙ g.same;
            rest = g.rest ∙ ap (λ q. i + taken (length l - made) s q) (drop-cons piece i 0 here)
                ∙ ap (λ k. i + k) (taken_on (length l - made) s (get_or piece i 0) (drop (suc i) piece) e)
                ∙ rw (add-one, room) (regroup i _);
          }
        where
          one : take (i + 1) piece ≡ take i piece ++ (get_or piece i 0 ∷ [])
          one = rw add-one (take-suc piece i 0 here)

          room : length l - made - length (says s (get_or piece i 0)) ≡ length l - made'
          room = omega (arith, p.place)

          regroup : (i k : ℕ) → i + (1 + k) ≡ suc i + k
          regroup i k = omega arith

      pub pushes : (get_or piece i 0 ≡ NEWLINE → ⊥) → Going m (pushed s (get_or piece i 0)) (i + 1) made
      unfolding step says
      pushes e =
          let f = ne_eqb (get_or piece i 0) NEWLINE e in
          rw f at (goes {m' = m} {made' = made} (rw f) (rw f (nothing_put made m)) g.fits)

      pub closes : {m' : List ℕ} {made' : ℕ} → get_or piece i 0 ≡ NEWLINE → MOST ≤ length m - made
          → Puts (closing s) made m m' made' → made' ≤ made + MOST → Going m' (next_line s) (i + 1) made'
      unfolding step says
      closes {m'} {made'} e h p b =
          let f = eq-eqb (get_or piece i 0) NEWLINE e in
          rw f at (goes {m' = m'} {made' = made'} (rw (f, le-ltb (length l - made) MOST (omega (arith, g.same))))
          (rw f p) (omega (arith, g.same, g.fits)))

-- a run that has room for a line takes something
pub takes : {line : Line} {piece l m : List ℕ} {r : Progress} → Ran line piece l m r → MOST ≤ length l
    → 0 < length piece → 0 < r.taken
takes {line} {piece} {l} t h b = rw t.took (go piece b)
  where
    go : (piece : List ℕ) → 0 < length piece → 0 < taken (length l) line piece
    go [] b = absurd (not-suc-le-zero b)
    go (x ∷ xs) b = rw (taken_on (length l) line x xs (simp (le-ltb (length l) MOST h, and-false))) (omega arith)
