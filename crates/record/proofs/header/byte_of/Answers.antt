-- `byte_of`: the table looked up, a row each.
use borrow.Author.Tests.{ne_eqb}
use Rattle.record.specs.Header.{byte_of}
use Rattle.record.proofs.header.byte_of.Goals as goal

pub returns-in-12 : goal.returns-in-12
unfolding byte_of
returns-in-12 c = rw c.in-12.is

pub returns-in-13 : goal.returns-in-13
unfolding byte_of
returns-in-13 c = rw c.in-13.is

pub returns-in-14 : goal.returns-in-14
unfolding byte_of
returns-in-14 c = rw c.in-14.is

pub returns-in-15 : goal.returns-in-15
unfolding byte_of
returns-in-15 c = rw c.in-15.is

pub returns-in_default : goal.returns-in_default
unfolding byte_of
returns-in_default c =
    let r = c.in_default.in_default-own.rest in
    simp (ne_eqb _ _ r.0.0.0.1, ne_eqb _ _ r.0.0.1, ne_eqb _ _ r.0.1, ne_eqb _ _ r.1)
