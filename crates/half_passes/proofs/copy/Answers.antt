-- `copy`: what is left to store, stored from `i` on, gives all of it stored from 0 on.
use Rattle.std.proofs.Common.{◌≡◌, ℕ, ◌+◌, ◌<◌, ◌≤◌, List, length, get_or, take, drop, set, sym, ◌∙◌, add-one, drop_of_length-le, length-take-le, drop-cons, get_or-take}
use lib.Seq.{sets}
use Rattle.half_passes.proofs.copy.Goals as goal

-- one byte more, and all of them
module _ (bs out : List ℕ) (size i : ℕ) (h : size ≤ length bs) where
  copy_turn : i < size → sets (set out i (get_or bs i 0)) (i + 1) (drop (i + 1) (take size bs))
      ≡ sets out i (drop i (take size bs))
  copy_turn l =
      let inside : i < length (take size bs) = rw (length-take-le size bs h) l in
      rw (add-one, drop-cons (take size bs) i 0 inside, get_or-take size bs i 0 l)

  copy_none : size ≤ i → sets out i (drop i (take size bs)) ≡ out
  copy_none l =
      let past : length (take size bs) ≤ i = rw (length-take-le size bs h) l in
      rw (drop_of_length-le (take size bs) past)

pub loop-i-preserved : goal.loop-i-preserved
loop-i-preserved c =
    let a = c.args in
    copy_turn a.bytes.now c.loop-i.out a.size c.loop-i.i c.requires.0 c.loop-i-test.true ∙ c.loop-i.invariant

pub returns : goal.returns
returns c =
    let a = c.args in
    sym (copy_none a.bytes.now c.loop-i.out a.size c.loop-i.i c.requires.0 c.loop-i-test.false) ∙ c.loop-i.invariant
