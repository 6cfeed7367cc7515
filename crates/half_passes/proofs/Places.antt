-- Some coefficients of a record, and the store of the other half: one turn puts the next entry of the whole
-- (`other-turn`).
use Rattle.std.proofs.Common.{◌≡◌, ℕ, zero, suc, ◌+◌, ◌-◌, ◌*◌, ◌<◌, ◌≤◌, Bool, List, ◌∷◌, take, drop, ℤ, sym, refl, ap, ◌∙◌, suc-mul, add-one, arith}
use lib.Seq.{sets}
use Rattle.definitions.specs.Steps.{entries}
use Rattle.definitions.specs.Halves.{half_of, image, rebuilt}
use Rattle.even_halves.specs.Halves.{length-rebuilt, other_entry}
use Rattle.widths.specs.Numbers.{bytes_of, number, twos, signed_of, body, coefficients_at}
use Rattle.record.proofs.Passes.{body-turn, body-none}

-- fewer of them are the first of them
pub coefficients-take : (w h k : ℕ) (bs : List ℕ) → h ≤ k → take h (coefficients_at w k bs) ≡ coefficients_at w h bs
unfolding coefficients_at
coefficients-take w zero k bs l = refl
coefficients-take w (suc h) zero bs l = absurd (omega arith)
coefficients-take w (suc h) (suc k) bs l =
    ap (◌∷◌ (signed_of w (number (take w bs)))) (coefficients-take w h k (drop w bs) (omega arith))

module _ (negate : Bool) (w count i : ℕ) (cs : List ℤ) (out : List ℕ) where
  pub other-turn : {r : ℕ} → i < count → half_of count ≤ i → r ≡ twos w (image negate (entries cs (count - 1 - i)))
      → sets (sets out (10 + i * w) (bytes_of w r)) (10 + (i + 1) * w) (body w (drop (i + 1) (rebuilt negate count cs)))
      ≡ sets out (10 + i * w) (body w (drop i (rebuilt negate count cs)))
  unfolding entries
  other-turn l h e =
      let whole = rebuilt negate count cs in
      let next : 10 + (i + 1) * w ≡ 10 + i * w + w = rw add-one (omega (arith, suc-mul i w)) in
      let is = e ∙ ap (twos w) (sym (other_entry negate count cs i l h)) in
      rw (next, is) (body-turn w whole out (10 + i * w) i (rw length-rebuilt l))

  pub other_none : count ≤ i → sets out (10 + i * w) (body w (drop i (rebuilt negate count cs))) ≡ out
  other_none past = body-none w (rebuilt negate count cs) out (10 + i * w) i (rw length-rebuilt past)
