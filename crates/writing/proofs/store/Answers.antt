-- `store`: the header and then the body of what is stored are the record (Writing).
use Prim.Native.Nat.{ℕ, ◌*◌}
use mathlib.Core.Path.{◌≡◌, sym, ap, ◌∙◌}
use native.Mathlib.Omega.{arith}
use lib.ListN.{length, take}
use lib.Seq.{sets, length-take-le}
use Rattle.record.specs.Header.{header_of}
use Rattle.record.proofs.Passes.{length-body}
use Rattle.widths.proofs.Least.{width_fits}
use Rattle.forms.proofs.Writing.{size-made, record_made, height-take}
use Rattle.writing.proofs.store.Goals as goal
use Rattle.writing.proofs.store.Goals.{After-stored_of-k}

pub overflow_cast-w : goal.overflow_cast-w
overflow_cast-w c =
    let start = (goal.at.overflow_cast-w c).After-stored_of-k in
    omega (arith, (width_fits start.args.coeffs.now start.args.w start.requires.1 start.requires.2).high)

pub put_header-requires : goal.put_header-requires
put_header-requires c =
    let stored = (goal.at.put_header-requires c).After-stored_of-k in
    let start = stored in
    omega (
      arith,
      size-made start.args.form start.args.coeffs.now _ _ start.requires.1 stored.stored_of-k.ensures.0,
      start.requires.4,
    )

-- what is stored is a part of all
cut : (c : After-stored_of-k) → length (take c.stored_of-k.result c.args.coeffs.now)
    ≡ c.stored_of-k.result
cut c = length-take-le c.stored_of-k.result c.args.coeffs.now c.stored_of-k.ensures.1

pub slice_bounds-put_stored-end : goal.slice_bounds-put_stored-end
slice_bounds-put_stored-end c = sym (cut (goal.at.slice_bounds-put_stored-end c).After-stored_of-k)

pub put_stored-requires : goal.put_stored-requires
put_stored-requires c =
    let header = c in
    let stored = (goal.at.put_stored-requires c).After-stored_of-k in
    let start = stored in
    let cs = start.args.coeffs.now in
    let w = start.args.w in
    let k = stored.stored_of-k.result in
    let f = width_fits cs w start.requires.1 start.requires.2 in (
      f.one,
      omega (arith, f.takes, height-take k cs),
      omega (
        arith,
        length-body w (take k cs) ∙ ap (λ (n : ℕ). n * w) (cut stored),
        size-made start.args.form cs w k start.requires.1 stored.stored_of-k.ensures.0,
        header.put_header.auto.bytes,
        start.requires.4,
      ),
    )

pub returns : goal.returns
returns c =
    let header = c in
    let stored = (goal.at.returns c).After-stored_of-k in
    let start = stored in
    let a = start.args in
    record_made a.form a.kind a.n a.w stored.stored_of-k.result a.coeffs.now a.bytes.now _ _
    start.requires.1 stored.stored_of-k.ensures.0 start.requires.4
    (header.put_header.ensures
    ∙ ap (λ (m : ℕ). sets a.bytes.now 0 (header_of m a.kind a.w a.n (length a.coeffs.now)))
    header.mark_of.ensures)
    c.put_stored.ensures
