-- `try_at`: what starts with another byte is no record (Trying).
use mathlib.Core.Path.{refl, sym, ◌∙◌, ap}
use native.Mathlib.Nat.{add-zero}
use lib.ListN.{length}
use lib.Seq.{get_or-drop}
use Rattle.shelf.proofs.Alone.{tail}
use Rattle.keeping.specs.Trying.{tried_of}
use Rattle.keeping.proofs.Trying.{tried_unmarked}
use Rattle.keeping.proofs.try_at.Goals as goal

pub returns-then-shelf-at : goal.returns-then-shelf-at
returns-then-shelf-at c = let a = c.args in record {
  value = tried_unmarked _ _
      (λ e. c.if-shelf-at.true (sym (get_or-drop a.at a.shelf.now 0 0 ∙ rw add-zero refl) ∙ e));
  coeffs_len_unchanged = refl;
}

pub returns : goal.returns
returns c = let start = c in
    let a = start.args in record {
      value = c.try_one.ensures.value ∙ ap (tried_of (length a.coeffs.now))
          (tail a.shelf.now a.at);
      coeffs_len_unchanged = c.try_one.ensures.coeffs_len_unchanged;
    }
