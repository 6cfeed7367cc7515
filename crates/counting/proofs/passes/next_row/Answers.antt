-- `next_row`: the row so far is that of the indices from the i-th on, and one more joins it in front.
use Rattle.std.proofs.Common.{◌≡◌, ℕ, ◌+◌, ◌-◌, ◌^◌, ◌<◌, length, get_or, pos, nat_abs, w64, to_z, of_z, arith}
use Rattle.std.proofs.Common.{sym, ◌∙◌, ap, ap₂}
use Rattle.std.proofs.lemmas.Option.{IfSome_then}
use mir.Facts.{to_z-of_z}
use Rattle.definitions.specs.Answer.{height}
use Rattle.never_over.proofs.Heights.{height_fits}
use Rattle.counting.specs.Census.{indices}
use Rattle.counting.specs.Passes.{joined_to, next_row}
use Rattle.counting.specs.Rows.{length-indices}
use Rattle.counting.proofs.Indices.{indices-before, height_at}
use Rattle.counting.proofs.Found.{count_most, nothing_due, next_more}
use Rattle.counting.proofs.passes.next_row.Goals as goal
use Rattle.counting.proofs.passes.next_row.Goals.{In-loop-i}

pub loop-i-init : goal.loop-i-init
loop-i-init c = sym (nothing_due c.args.due (c.args.a + length c.args.heights.now) _ (omega arith))

-- the height of an index, as it is read
module _ (c : In-loop-i) where
  abbrev place : ℕ
  place = c.loop-i.i - 1

  read : get_or c.args.heights.now place (pos 0) ≡ pos (height 1 (c.args.a + place))
  read =
      ap (λ l. get_or l place (pos 0)) c.requires.are
      ∙ height_at c.args.a (length c.args.heights.now) place (omega arith)

  small : height 1 (c.args.a + place) < 2 ^ 63
  small =
      let low = height_fits (c.args.a + place) (omega (arith, c.requires.some)) (omega (arith, c.requires.most)) 1 in
      omega (arith, low)

  same : to_z w64 (of_z w64 (get_or c.args.heights.now place (pos 0))) ≡ pos (height 1 (c.args.a + place))
  same = to_z-of_z {w = w64} (rw read (record { sfits = small })) ∙ read

pub overflow_cast-heights : goal.overflow_cast-heights
overflow_cast-heights c =
    let at = (goal.at.overflow_cast-heights c).In-loop-i in rw (same at) (tt, record { fits = omega (arith, small at) })

pub joined-row-requires : goal.joined-row-requires
joined-row-requires c =
    let k = length c.args.heights.now - c.loop-i.i in
    let ns = indices (c.args.a + c.loop-i.i) k in
    rw c.loop-i.invariant
    (IfSome_then (next_row c.args.due ns) (count_most c.args.due ns)
    (λ r l. omega (arith, length-indices (c.args.a + c.loop-i.i) k, c.requires.most)))

pub loop-i-preserved : goal.loop-i-preserved
loop-i-preserved c =
    let at = (goal.at.loop-i-preserved c).In-loop-i in
    c.joined-row.ensures
    ∙ (ap₂ (λ z r. joined_to c.args.due (nat_abs z) (c.args.a + place at) r) (same at) c.loop-i.invariant
    ∙ (sym (next_more c.args.due (c.args.a + place at) _) ∙ sym (ap (next_row c.args.due) (indices-before
    c.args.a c.loop-i.i (length c.args.heights.now) (omega arith) (omega arith)))))
