-- `measure`: where r is 1 the height is 1; else the lower half for r tells it (`first_halves`), in fewer entries than
-- n, so that those from n on stay (Measuring).
use Rattle.std.proofs.Common.{◌≡◌, ◌≢◌, true, ℕ, ◌+◌, ◌<◌, ◌≤◌, length, refl, arith, sym, ◌∙◌, ap}
use lib.Seq.{length-take-le}
use Rattle.definitions.specs.Numbers.{r_of}
use Rattle.definitions.specs.Polynomials.{polynomial}
use Rattle.definitions.specs.KeptHalf.{half_degree}
use Rattle.definitions.specs.Requests.{good_index}
use Rattle.step_laws.specs.Firsts.{length-firsts}
use Rattle.index.specs.Parts.{parts_of}
use Rattle.index.proofs.Laws.{good_index_lem, taken_good, parts_r, parts_half}
use Rattle.counting.proofs.Measuring.{one_is, kept_within, rest_stays}
use Rattle.counting.proofs.filling.measure.Goals as goal
use Rattle.counting.proofs.filling.measure.Goals.{After-half_degree-half}

good : (n : ℕ) → 0 < n → n ≤ 4095 → good_index n ≡ true
good n low high = good_index_lem n low (omega arith)

pub returns-then-parts-eq1-clause-value : goal.returns-then-parts-eq1-clause-value
returns-then-parts-eq1-clause-value c =
    let p = c.take_apart-parts.ensures ∙ taken_good c.args.n (good c.args.n c.requires.0 c.requires.1) in
    let is = one_is c.args.n c.requires.0 (sym (parts_r c.args.n _ p) ∙ c.if-parts-eq1.true) in
    rw (is.0, is.1) refl

-- D, and that the lower half has room before entry n
module _ (c : After-half_degree-half) where
  apart : c.take_apart-parts.result ≡ parts_of c.args.n
  apart = c.take_apart-parts.ensures ∙ taken_good c.args.n (good c.args.n c.requires.0 c.requires.1)

  above : r_of c.args.n ≢ 1
  above e = c.if-parts-eq1.false (parts_r c.args.n _ apart ∙ e)

  half : c.half_degree-half.result ≡ half_degree 1 (r_of c.args.n)
  half = parts_half c.args.n _ apart 1 _ c.half_degree-half.ensures

  before_n : c.half_degree-half.result + 1 ≤ c.args.n
  before_n = omega (arith, half, kept_within c.args.n c.requires.0 above)

  room : c.half_degree-half.result + 1 ≤ length c.args.work.now
  room = omega (arith, before_n, c.requires.2)

pub slice_bounds-lower_half-end : goal.slice_bounds-lower_half-end
slice_bounds-lower_half-end c = room (goal.at.slice_bounds-lower_half-end c).After-half_degree-half

pub slice_bounds-lower_half-end-2 : goal.slice_bounds-lower_half-end-2
slice_bounds-lower_half-end-2 c =
    sym (length-take-le _ _ (room (goal.at.slice_bounds-lower_half-end-2 c).After-half_degree-half))

pub lower_half-requires : goal.lower_half-requires
lower_half-requires c =
    let q = (goal.at.lower_half-requires c).After-half_degree-half in
    (apart q, good c.args.n c.requires.0 c.requires.1, above q, length-take-le _ _ (room q) ∙ ap (λ d. d + 1) (half q))

pub returns-clause-work_unchanged : goal.returns-clause-work_unchanged
returns-clause-work_unchanged c =
    let q = (goal.at.returns-clause-work_unchanged c).After-half_degree-half in
    let r = r_of c.args.n in
    let long = ap length c.lower_half.ensures.a_after ∙ length-firsts (half_degree 1 r + 1) (polynomial 1 r)
    ∙ ap (λ d. d + 1) (sym (half q)) in
    rest_stays c.lower_half.new.a c.args.work.now (c.half_degree-half.result + 1) c.args.n long (before_n q)
