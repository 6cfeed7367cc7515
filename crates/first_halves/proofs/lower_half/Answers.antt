-- `lower_half`: the kept half after all steps, none of which is OVER (FirstHalves).
use mathlib.Core.Path.{refl, ◌∙◌, ap, ap₂}
use native.Mathlib.Omega.{arith}
use Rattle.definitions.specs.Numbers.{r_of}
use Rattle.definitions.specs.Steps.{largest}
use Rattle.definitions.specs.Requests.{known_kind, divisors_due}
use Rattle.kept_half.specs.Halves.{StepsDue, RunTaken}
use Rattle.first_halves.specs.declared.Measured.{Measured}
use Rattle.first_halves.proofs.FirstHalves.{steps-taken, steps_left, height_is, added}
use Rattle.first_halves.proofs.lower_half.Goals as goal
use Rattle.first_halves.proofs.lower_half.Goals.{Start, After-unwrap-run}

due : (s : Start) → StepsDue 1 s.args.n s.args.parts
unfolding known_kind
due s = record { parts = s.requires.0; known = refl; good = s.requires.1; above = s.requires.2 }

pub all_steps-requires : goal.all_steps-requires
all_steps-requires c = (due (goal.at.all_steps-requires c).Start, c.requires.3, omega arith)

pub unwrap-run-requires : goal.unwrap-run-requires
unwrap-run-requires c =
    steps-taken c.args.n c.args.parts c.requires.0 c.requires.1 c.requires.2 c.all_steps.new.a c.all_steps.result
    c.all_steps.ensures

-- all steps were taken
made : (c : After-unwrap-run)
    → RunTaken largest 1 (r_of c.args.n) (divisors_due (r_of c.args.n)) c.all_steps.new.a c.unwrap-run.result
made c = rw c.unwrap-run.ensures at c.all_steps.ensures

pub returns : goal.returns
returns c =
    let m = made (goal.at.returns c).After-unwrap-run in
    let tall = ap (λ t. t.height) c.peak_within-top.ensures
    ∙ height_is c.args.n _ c.requires.0 c.requires.1 c.requires.2 m in
    let sum = added c.args.n _ c.requires.0 c.requires.1 c.requires.2 m in record {
      value = ap₂ {C = Measured} (λ h k. record { height = h; additions = k }) tall sum;
      a_after = steps_left c.args.n _ c.requires.0 c.requires.1 c.requires.2 m;
    }
