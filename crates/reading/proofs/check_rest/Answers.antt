-- `check_rest`: each return by the tests that led there (Reading).
use Prim.Native.Nat.{◌≤◌}
use mathlib.Core.Path.{◌≡◌, sym, ◌∙◌}
use mathlib.Core.Bool.{true}
use native.Mathlib.Omega.{arith}
use lib.ListN.{length}
use lib.Dec.{eqb}
use Rattle.widths.specs.Numbers.{width}
use Rattle.record.specs.Header.{width_in, count_in}
use Rattle.record.proofs.Headers.{right}
use Rattle.forms.specs.Format.{stored_in, size_in}
use Rattle.forms.proofs.Reading.{code_cut, code-short, code_wide, code-uneven, code_done}
use Rattle.reading.proofs.check_rest.Goals as goal
use Rattle.reading.proofs.check_rest.Goals.{Else-bytes-size_in, Else-not-right, Else-room-count_in}

-- the record is whole
whole : (c : Else-bytes-size_in) → size_in c.args.form c.args.bytes.now ≤ length c.args.bytes.now
whole c = omega (arith, c.size_in.ensures)

-- and there is room
room : (c : Else-room-count_in) → count_in c.args.bytes.now ≤ c.args.room
room c = omega (arith, c.count_in.ensures)

pub size_in-requires : goal.size_in-requires
size_in-requires c = (_, c.requires)

pub returns-then-bytes-size_in : goal.returns-then-bytes-size_in
returns-then-bytes-size_in c =
    let start = c in
    sym (code_cut _ _ _ start.requires (omega (arith, c.size_in.ensures)))

pub count_in-requires : goal.count_in-requires
count_in-requires c = (right _ _ c.requires).long

pub returns-then-room-count_in : goal.returns-then-room-count_in
returns-then-room-count_in c =
    let long = (goal.at.returns-then-room-count_in c).Else-bytes-size_in in
    sym (code-short _ _ _ long.requires (whole long) (omega (arith, c.count_in.ensures)))

pub right_in-right-requires : goal.right_in-right-requires
right_in-right-requires c = ((goal.at.right_in-right-requires c).Else-bytes-size_in.requires, whole (goal.at.right_in-right-requires c).Else-bytes-size_in)

pub uneven_in-uneven-requires : goal.uneven_in-uneven-requires
uneven_in-uneven-requires c =
    let long = (goal.at.uneven_in-uneven-requires c).Else-bytes-size_in in
    (long.requires, whole long)

pub returns-then-not-right : goal.returns-then-not-right
returns-then-not-right c =
    let looked = c in
    let roomy = (goal.at.returns-then-not-right c).Else-room-count_in in
    let long = (goal.at.returns-then-not-right c).Else-bytes-size_in in
    sym (code_wide _ _ _ long.requires (whole long) (room roomy)
    (sym looked.right_in-right.ensures ∙ c.if-not-right.true))

-- the width is right
wide : (c : Else-not-right) → let start = c in
    eqb (width (stored_in start.args.form start.args.bytes.now)) (width_in start.args.bytes.now) ≡ true
wide c = sym c.right_in-right.ensures ∙ c.if-not-right.false

pub returns-then-uneven : goal.returns-then-uneven
returns-then-uneven c =
    let e = (goal.at.returns-then-uneven c).Else-not-right in
    let roomy = (goal.at.returns-then-uneven c).Else-room-count_in in
    let long = (goal.at.returns-then-uneven c).Else-bytes-size_in in
    sym (code-uneven _ _ _ long.requires (whole long) (room roomy) (wide e)
    (sym e.uneven_in-uneven.ensures ∙ c.if-uneven.true))

pub returns : goal.returns
returns c =
    let e = (goal.at.returns c).Else-not-right in
    let roomy = (goal.at.returns c).Else-room-count_in in
    let long = (goal.at.returns c).Else-bytes-size_in in
    sym (code_done _ _ _ long.requires (whole long) (room roomy) (wide e)
    (sym e.uneven_in-uneven.ensures ∙ c.if-uneven.false))
