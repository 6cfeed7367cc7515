-- `next_from`: a search, and the end of the record that it found (keeping, Searching; Searches).
use Rattle.std.proofs.Common.{ℕ, ◌+◌, ◌∙◌, ap, drop, length-drop, arith}
use Rattle.std.proofs.lemmas.Result.{err_from_is_err_and}
use Rattle.shelf.proofs.Alone.{tail}
use Rattle.keeping.proofs.Searching.{sought}
use Rattle.rescuing.specs.Rescue.{size_at}
use Rattle.rescuing.proofs.Searches.{ends_at, ends_within, size_within}
use Rattle.rescuing.proofs.passes.next_from.Goals as goal

pub returns-in_err-start-clause-next_is : goal.returns-in_err-start-clause-next_is
returns-in_err-start-clause-next_is c =
    let p = err_from_is_err_and c.from_residual.result c.from_residual.ensures.1 in
    rw p.1 (sought _ _ _ _ c.in_err-start.ensures.value)

pub slice_bounds-size_at-count : goal.slice_bounds-size_at-count
slice_bounds-size_at-count c =
    ends_within _ _ _ c.requires (sought _ _ _ _ c.in_ok-start.ensures.value).1

pub slice_bounds-size_at-start : goal.slice_bounds-size_at-start
slice_bounds-size_at-start c =
    ends_within _ _ _ c.requires (sought _ _ _ _ c.in_ok-start.ensures.value).1

pub size_at-requires : goal.size_at-requires
size_at-requires c =
    rw (tail c.args.shelf.now c.in_ok-start.start)
    (ends_at _ _ _ (sought _ _ _ _ c.in_ok-start.ensures.value).1)

pub overflow_add-end : goal.overflow_add-end
overflow_add-end c =
    let shelf = c.args.shelf.now in
    let start = c.in_ok-start.start in
    let is = (sought _ _ _ _ c.in_ok-start.ensures.value).1 in
    record {
      fits = omega (
        arith,
        c.size_at.ensures,
        ap size_at (tail shelf start),
        size_within (drop start shelf) (ends_at shelf c.args.at start is),
        ends_within shelf c.args.at start c.requires is,
        length-drop start shelf,
      );
    }

pub returns-clause-next_is : goal.returns-clause-next_is
returns-clause-next_is c =
    let start = c.in_ok-start.start in
    let (free, is) = sought _ _ _ _ c.in_ok-start.ensures.value in
    record {
      free = free;
      start = is;
      end = ap (λ (n : ℕ). start + n) (c.size_at.ensures ∙ ap size_at (tail c.args.shelf.now start));
    }
