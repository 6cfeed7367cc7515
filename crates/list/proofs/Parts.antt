-- Between two runs over a piece: what was taken stands before what is left of it, and leaves a line open.
use Rattle.std.proofs.Common.{◌≡◌, ℕ, ◌+◌, ◌≤◌, List, length, take, drop, refl, sym, ◌∙◌, ap, arith}
use Rattle.line_so_far.specs.declared.Line.{Line}
use Rattle.listing.specs.Stream.{after}
use Rattle.listing.proofs.Streaming.{after-append}
use Rattle.std.proofs.Math.Seq.{take-add, drop-drop}
use Rattle.std.proofs.lemmas.List.{length-drop}
use Rattle.list.specs.declared.Failed.{Failed}
use Rattle.list.specs.declared.Failed.TheVariants.{Reading, Writing}
use Rattle.list.specs.Went.{Reached, Unwritten}

pub record Before (line : Line) (piece rest : List ℕ) (next : Line) : Type 0 where
  pub from : ℕ
  pub within : from ≤ length piece
  pub remains : rest ≡ drop from piece
  pub left : next ≡ after line (take from piece)

pub before_any : (line : Line) (piece : List ℕ) → Before line piece piece line
unfolding after
before_any line piece = record { from = 0; within = omega arith; remains = refl; left = refl }

module _ {line : Line} {piece rest : List ℕ} {next : Line} (b : Before line piece rest next) where
  -- over some of what is left
  on : (taken : ℕ) → after next (take taken rest) ≡ after line (take (b.from + taken) piece)
  on taken =
      rw (b.remains, b.left)
      (sym (ap (after line) (take-add b.from taken piece)
      ∙ after-append line (take b.from piece) (take taken (drop b.from piece))))

  pub reached : {taken : ℕ} {s : Line} → Reached next rest taken s → Reached line piece (b.from + taken) s
  reached {taken} r =
      record {
        some = omega (arith, r.some);
        within = omega (arith, r.within, b.within, ap length b.remains, length-drop b.from piece);
        left = r.left ∙ on taken;
      }

  pub further : {taken : ℕ} {s : Line} → Reached next rest taken s → Before line piece (drop taken rest) s
  further {taken} r =
      record {
        from = b.from + taken;
        within = (reached r).within;
        remains = rw b.remains (drop-drop taken b.from piece);
        left = (reached r).left;
      }

  pub unwritten : (e : Failed) → Unwritten next rest e → Unwritten line piece e
  unwritten (Writing s) w = (b.from + w.0, reached w.1)
  unwritten (Reading s) w = w
