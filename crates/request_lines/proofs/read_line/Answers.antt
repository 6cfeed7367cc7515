-- `request_lines::read_line` meets its contract, part by part (`Reading`).
use Rattle.std.proofs.Common.{sym, arith}
use borrow.Author.Tests.{eq-eqb, ne_eqb}
use Rattle.digits.proofs.Digits.{nine_range}
use Rattle.request_lines.proofs.Reading.{no_kind, no_space, no_index, no_gap, no_limit, reads_all}
use Rattle.request_lines.proofs.read_line.Goals as goal

pub returns-in_err-kind : goal.returns-in_err-kind
returns-in_err-kind c =
    rw c.from_residual.ensures (sym (no_kind _ (rw c.byte_at.ensures at c.in_err-kind.ensures)), tt)

pub returns-then-byte_at-ne32 : goal.returns-then-byte_at-ne32
returns-then-byte_at-ne32 c =
    (sym (no_space _ (rw c.byte_at-2.ensures at (ne_eqb _ _ c.if-byte_at-ne32.true))), tt)

pub returns-in_err-a : goal.returns-in_err-a
returns-in_err-a c = rw c.from_residual-in_err-a.ensures (sym (no_index _ c.in_err-a.ensures), tt)

pub overflow_add-a : goal.overflow_add-a
overflow_add-a c =
    let a = c.in_ok-a.ensures in
    omega (arith, nine_range _ a.0, a.1)

pub returns-then-byte_at-ne32-2 : goal.returns-then-byte_at-ne32-2
returns-then-byte_at-ne32-2 c =
    let gap = ne_eqb _ _ c.if-byte_at-ne32-2.true in
    (sym (no_gap _ (rw (c.byte_at-3.ensures, c.in_ok-a.ensures.1) at gap)), tt)

pub returns-in_err-b : goal.returns-in_err-b
returns-in_err-b c =
    rw c.from_residual-in_err-b.ensures (sym (no_limit _ (rw c.in_ok-a.ensures.1 at c.in_err-b.ensures)), tt)

pub overflow_add-whole-2 : goal.overflow_add-whole-2
overflow_add-whole-2 c =
    let a = c.in_ok-a.ensures in
    let b = c.in_ok-b.ensures in
    omega (arith, nine_range _ a.0, a.1, nine_range _ b.0, b.1)

pub returns : goal.returns
returns c =
    reads_all _ _ _ _ _ _ _ (rw c.byte_at.ensures at c.in_ok-kind.ensures)
    (rw c.byte_at-2.ensures at (eq-eqb _ _ c.if-byte_at-ne32.false)) c.in_ok-a.ensures
    (rw c.byte_at-3.ensures at (eq-eqb _ _ c.if-byte_at-ne32-2.false)) c.in_ok-b.ensures c.then_some.ensures
