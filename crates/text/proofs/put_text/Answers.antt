-- `text::put_text` meets its contract: the bytes are copied to where the text stands.
use Rattle.std.proofs.Common.{List, ℕ, ◌+◌, ◌++◌, length, take, drop, refl, sym, ap, ◌∙◌, arith}
use Rattle.std.proofs.Math.Seq.{take-length}
use Rattle.std.proofs.lemmas.List.Edits.{sets-eq}
use Rattle.std.proofs.lemmas.Slice.{put_mid-paste}
use Rattle.text.proofs.put_text.Goals as goal

pub returns : goal.returns
returns c =
    let out = c.args.out.now in
    let bytes = c.args.bytes.now in
    let at = c.args.at in
    record {
      leaves = put_mid-paste at _ out _ bytes (length bytes) c.copy_from_slice.ensures.after (omega arith) refl
          ∙ ap (λ (r : List ℕ). take at out ++ r ++ drop (at + length bytes) out) (take-length bytes)
          ∙ sym (sets-eq bytes out at c.requires);
      place = refl;
    }
