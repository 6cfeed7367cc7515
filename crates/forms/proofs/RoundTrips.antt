-- The round trips, over what the public functions promise, of each form: what the writer wrote reads back to the same
-- kind, index and coefficients; a record that reads well, rewritten, is the same bytes; what lies past a record is
-- untouched both ways.
use Prim.Native.Nat.{ℕ, ◌+◌, ◌≤◌, ◌<◌}
use mathlib.Core.Path.{◌≡◌, refl, sym, ◌∙◌}
use mathlib.Core.Bool.{Bool, true, false, cond}
use mathlib.Core.List.{List, ◌++◌}
use native.Mathlib.Omega.{arith}
use lib.ListN.{length, get_or, take, drop}
use lib.Seq.{take_at, drop_at}
use lib.IntN.{ℤ}
use lib.Dec.{eqb}
use Rattle.definitions.specs.Codes.{DONE}
use Rattle.definitions.specs.Polynomials.{degree}
use Rattle.record.specs.Header.{kind_in, index_in, count_in, degree_in, byte_of}
use Rattle.record.proofs.Headers.{right}
use Rattle.widths.proofs.Digits.{bytes_each}
use Rattle.forms.specs.declared.Form.{Form}
use Rattle.forms.specs.declared.Written.{Written}
use Rattle.forms.specs.declared.Record.{Record}
use Rattle.forms.specs.Format.{mark, record_of, size, write_code, write_tells, write_answer, write_leaves}
use Rattle.forms.specs.Format.{coefficients_in, size_in, read_code, read_tells, read_answer, read_leaves}
use Rattle.forms.proofs.Writing.{length_record, stored-whole}
use Rattle.forms.proofs.Reading.{by_code}
use Rattle.forms.proofs.Done.{written-right, read_right}
use Rattle.forms.proofs.WriteRead.{back}
use Rattle.forms.proofs.ReadWrite.{length_whole, storable_read, size_read, record_same}

-- what `write` and `read` promise
abbrev pub wrote : Form → ℕ → ℕ → List ℤ → List ℕ → Written
wrote form kind n cs b = write_answer form kind n cs (length b)

abbrev pub did_read : Form → List ℕ → List ℤ → Record
did_read form bs out = read_answer form bs (length out)

-- Written, then read, in a buffer with enough entries.
module _ (form : Form) (kind n : ℕ) (cs : List ℤ) (b : List ℕ) (out : List ℤ) where
  pub write_read : (wrote form kind n cs b).code ≡ DONE → length cs ≤ length out →
      (did_read form (write_leaves form kind n cs b) out
      ≡ record {
        code = DONE;
        degree = degree kind n;
        used = (wrote form kind n cs b).used;
        kind = kind;
        n = n;
        byte = 0;
      })
      × (read_leaves form (write_leaves form kind n cs b) out ≡ cs ++ drop (length cs) out)
  unfolding write_answer write_tells write_leaves read_tells byte_of
  write_read done room =
      let bs = record_of form kind n cs ++ drop (size form cs) b in
      let r = back form kind n cs (drop (size form cs) b) (written-right form kind n cs (length b) done).storable in
      let p = by_code form bs out DONE (r.code (length out) room) in
      rw done (
        sym p.0 ∙ rw (r.degree_in_lem, r.size_in_lem, r.kind_in_lem, r.index_in_lem),
        sym p.1 ∙ rw (r.whole, r.count_in_lem),
      )

-- Read well, then rewritten with all that was read, in a buffer with enough bytes.
module _ (form : Form) (bs : List ℕ) (out : List ℤ) (done : (did_read form bs out).code ≡ DONE) where
  -- the first degree + 1 entries are the record's coefficients
  entries_read : take (degree_in bs + 1) (coefficients_in form bs ++ drop (count_in bs) out) ≡ coefficients_in form bs
  unfolding read_answer read_tells
  entries_read =
      take_at (coefficients_in form bs) (drop (count_in bs) out) (degree_in bs + 1)
      (length_whole form bs ∙ (right (mark form) bs (read_right form bs (length out) done).header).count)

  pub read_write : ((i : ℕ) → get_or bs i 0 < 256) → (b : List ℕ) → (did_read form bs out).used ≤ length b →
      let r = did_read form bs out in let cs = take (r.degree + 1) (read_leaves form bs out) in
      (wrote form r.kind r.n cs b ≡ record { code = DONE; degree = r.degree; used = r.used; byte = 0 })
      × (write_leaves form r.kind r.n cs b ≡ take r.used bs ++ drop r.used b)
  unfolding read_answer read_tells read_leaves write_tells byte_of degree_in
  read_write bytes b room =
      let p = bytes_each bs bytes in
      let g = read_right form bs (length out) done in
      let s = storable_read form bs (length out) p g in
      let same = size_read form bs (length out) p g in
      let fits : size_in form bs ≤ length b = rw done at room in
      let q = stored-whole form (kind_in bs) (index_in bs) (coefficients_in form bs) b s.known s.good s.count
      s.within s.even (omega (arith, same)) in
      rw (done, entries_read)
      (sym q.0 ∙ rw same, sym q.1 ∙ rw (record_same form bs (length out) p g, same))

-- What lies past a record is untouched, and on refusal all of it.
pub past_written : (form : Form) (kind n : ℕ) (cs : List ℤ) (b : List ℕ) →
    drop (wrote form kind n cs b).used (write_leaves form kind n cs b) ≡ drop (wrote form kind n cs b).used b
unfolding write_answer write_tells write_leaves
past_written form kind n cs b = go (eqb (write_code form kind n cs (length b)) DONE)
  where
    go : (t : Bool) → drop (cond t (size form cs) 0) (cond t (record_of form kind n cs ++ drop (size form cs) b) b)
        ≡ drop (cond t (size form cs) 0) b
    go true = drop_at (record_of form kind n cs) (drop (size form cs) b) (size form cs) (length_record form kind n cs)
    go false = refl

-- the entries that a reader fills are as many as the polynomial has coefficients, and none on refusal
pub past_read : (form : Form) (bs : List ℕ) (out : List ℤ) →
    let k = cond (eqb (did_read form bs out).code DONE) (count_in bs) 0 in drop k (read_leaves form bs out) ≡ drop k out
unfolding read_answer read_tells read_leaves
past_read form bs out = go (eqb (read_code form bs (length out)) DONE)
  where
    go : (t : Bool) →
        drop (cond t (count_in bs) 0) (cond t (coefficients_in form bs ++ drop (count_in bs) out) out)
        ≡ drop (cond t (count_in bs) 0) out
    go true = drop_at (coefficients_in form bs) (drop (count_in bs) out) (count_in bs) (length_whole form bs)
    go false = refl
