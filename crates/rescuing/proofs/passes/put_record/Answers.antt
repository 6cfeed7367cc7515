-- `put_record`: a part of the output, replaced by the record (Turns).
use Rattle.std.proofs.Common.{ℕ, ◌≡◌, ◌≤◌, List, [], ◌++◌, length, take, drop, refl, sym, ap, ◌∙◌, arith, drop_of_length-le, length-take-le}
use Rattle.std.proofs.Math.Seq.{take-length}
use Rattle.std.proofs.lemmas.List.{append-nil}
use lib.ListN.{length-drop}
use lib.Seq.{sets}
use Rattle.record.proofs.Passes.{sets_over}
use Rattle.rescuing.proofs.Turns.{part-stored}
use Rattle.rescuing.proofs.passes.put_record.Goals as goal

-- what is put over a part that is just as long
put_all : (b l : List ℕ) (n : ℕ) → n ≡ length b → n ≤ length l → {x : List ℕ}
    → x ≡ sets (take n l) 0 (take (length b) b) → x ≡ b
put_all b l n e h p =
    let long : length (take n l) ≡ n = length-take-le n l h in
    let none : drop (length b) (take n l) ≡ [] = drop_of_length-le (take n l) (omega (arith, long, e)) in
    p ∙ ap (sets (take n l) 0) (take-length b)
    ∙ sym (sets_over (take n l) b (length b) refl (omega (arith, long, e)))
    ∙ ap (λ d. b ++ d) none ∙ append-nil b

pub returns-clause-out_after : goal.returns-clause-out_after
returns-clause-out_after c =
    part-stored c.args.out.now c.args.bytes.now c.args.at c.requires _ (omega arith) _
    (put_all c.args.bytes.now _ _ (omega arith) (omega (arith, c.requires, length-drop c.args.at c.args.out.now)) c.copy.ensures)
