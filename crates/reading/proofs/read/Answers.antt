-- `read`: what was looked at decides what is told and stored (Reading).
use Rattle.std.proofs.Common.{◌∙◌, sym}
use Rattle.definitions.specs.Codes.{DONE}
use Rattle.record.proofs.Refused.{not_done}
use Rattle.forms.proofs.Done.{read_right}
use Rattle.forms.proofs.Reading.{by_code, refused}
use Rattle.reading.proofs.read.Goals as goal

pub returns-in-Err : goal.returns-in-Err
returns-in-Err c =
    let a = c.args in
    let p = refused a.form a.bytes.now a.coeffs.now _ (sym c.in-Err.ensures) (not_done _) in record {
      answer = c.refused.ensures ∙ p.0;
      leaves = p.1;
    }

pub told-requires : goal.told-requires
told-requires c = (read_right _ _ _ (sym c.in_default.ensures)).header

pub returns : goal.returns
returns c =
    let a = c.args in
    let p = by_code a.form a.bytes.now a.coeffs.now DONE (sym c.in_default.ensures) in record {
      answer = c.told.ensures ∙ p.0;
      leaves = c.deliver.ensures ∙ p.1;
    }
