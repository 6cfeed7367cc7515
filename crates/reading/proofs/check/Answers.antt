-- `check`: a wrong header refuses by itself, and else `check_rest`.
use Rattle.std.proofs.Common.{◌∙◌, sym, ap}
use Rattle.record.specs.Header.{header_code}
use Rattle.record.proofs.Refused.{not_done}
use Rattle.forms.proofs.Reading.{code_header}
use Rattle.reading.proofs.check.Goals as goal

pub returns-in-Err : goal.returns-in-Err
returns-in-Err c =
    sym (code_header _ _ _ _ (c.in-Err.ensures ∙ ap (λ m. header_code m c.args.bytes.now) c.mark_of.ensures) (not_done _))
