-- `refused`: the degree and the byte where they are told (Reading); where SHORT is, the header is right.
use Rattle.std.proofs.Common.{◌≡◌, ◌∙◌, ap, arith}
use Rattle.definitions.specs.Codes.{DONE}
use Rattle.answers.specs.Refusals.{number_of}
use Rattle.answers.specs.declared.Refusal.TheVariants.{Short}
use Rattle.record.specs.Header.{header_code}
use Rattle.record.proofs.Headers.{right}
use Rattle.record.proofs.Refused.{same_number, not_done}
use Rattle.forms.specs.Format.{mark}
use Rattle.forms.proofs.Reading.{short_header, short-told, other-told}
use Rattle.reading.proofs.refused.Goals as goal
use Rattle.reading.proofs.refused.Goals.{In-Short}

header : (c : In-Short) → header_code (mark c.args.form) c.args.bytes.now ≡ DONE
header c = short_header _ _ c.requires.0 (c.requires.1 ∙ ap number_of c.in-Short.is)

pub count_in-requires : goal.count_in-requires
count_in-requires c = (right _ _ (header (goal.at.count_in-requires c).In-Short)).long

pub overflow_sub-count_in : goal.overflow_sub-count_in
overflow_sub-count_in c =
    omega (arith, c.count_in.ensures, (right _ _ (header (goal.at.overflow_sub-count_in c).In-Short)).count)

pub returns-in-Short : goal.returns-in-Short
returns-in-Short c =
    c.of.ensures ∙ rw c.in-Short.is (short-told _ _ _
    (omega (arith, c.count_in.ensures, (right _ _ (header (goal.at.returns-in-Short c).In-Short)).count)))

pub returns-in_default : goal.returns-in_default
returns-in_default c =
    c.of-in_default.ensures ∙ other-told _ _ _ _ (not_done c.args.refusal)
    (λ e. c.in_default.not-Short (same_number c.args.refusal Short e)) c.byte_for.ensures
