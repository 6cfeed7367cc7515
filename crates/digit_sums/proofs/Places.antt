-- The number of what is carried to a place and what stands from there on, told from that of the next place on and a
-- digit.
use mathlib.Core.Path.{◌≡◌, refl, sym, ◌∙◌, ap, ap₂}
use mathlib.Core.List.{List, [], ◌∷◌}
use Prim.Native.Nat.{ℕ, suc, ◌+◌, ◌-◌, ◌^◌, ◌<◌, ◌≤◌}
use native.Mathlib.Omega.{arith}
use native.Mathlib.Numerals.{add-one}
use lib.IntN.{ℤ, pos, nat_abs}
use lib.Signed.{shr_z}
use Rattle.std.specs.Prelude.{Some, None}
use Rattle.std.specs.Option.{option_and_then}
use mir.Syntax.{w64}
use mir.Val.{SFits}
use mir.Facts.{to_z-of_z}
use Rattle.definitions.specs.Integers.{◌⊕◌, ◌⊗◌}
use Rattle.definitions.specs.Steps.{entries}
use Rattle.integers.specs.Solver.{x, y, z, ◌:+◌}
use Rattle.integers.specs.Whole.{⊕_comm, ringℤ}
use Rattle.step_laws.specs.Signed.{abs_⊕}
use Rattle.step_laws.specs.Machine.{seen, handed}
use Rattle.light_sums.specs.Parts.{base, rest, rest_below}
use Rattle.light_sums.specs.Told.{told, told_fits, told_mag, told_joined}
use Rattle.digit_sums.specs.Digits.{place, number, number_more, number_last}
use Rattle.light_sums.proofs.Joins.{carried, small_fits, shr_fits}

-- what is carried on
module _ {n r v : ℤ} (l : nat_abs n < 2 ^ 63) (same : v ≡ n) (is : r ≡ shr_z v base) where
  pub carry_seen : seen r ≡ shr_z n base
  carry_seen = handed (shr_fits base n (small_fits n l)) (is ∙ ap (λ a. shr_z a base) same)

-- a carry and what stands at the place k, as they are handed on: their sum fits
pub record Here (at : ℕ → ℤ) (k : ℕ) (carry s : ℤ) : Type 0 where
  pub fits : SFits w64 carry
  pub few : nat_abs carry ≤ 2199023255552
  pub is : s ≡ at k
  pub small : nat_abs s ≤ 5764607523034234880

pub here_of : (f b : List ℤ) (i k : ℕ) {carry s : ℤ} → SFits w64 carry → nat_abs carry ≤ 2199023255552
    → (s ≡ place (entries f) (entries b) i k) × (nat_abs s ≤ 5764607523034234880)
    → Here (place (entries f) (entries b) i) k carry s
here_of f b i k g few e = record { fits = g; few = few; is = e.0; small = e.1 }

module _ {at : ℕ → ℤ} {k : ℕ} {carry s : ℤ} (h : Here at k carry s) where
  there_small : nat_abs (at k) ≤ 5764607523034234880
  there_small = rw h.is at h.small

  pub here_most : nat_abs (carry ⊕ at k) < 2 ^ 63
  here_most = omega (arith, abs_⊕ carry (at k), h.few, there_small)

  here_is : seen carry ⊕ seen s ≡ carry ⊕ at k
  here_is = ap₂ ◌⊕◌ (to_z-of_z h.fits) (handed (small_fits (at k) (omega (arith, there_small))) h.is)

  pub here_asks : SFits w64 (seen carry ⊕ seen s)
  here_asks = rw here_is (small_fits (carry ⊕ at k) here_most)

  pub here_seen : {r : ℤ} → r ≡ seen carry ⊕ seen s → seen r ≡ carry ⊕ at k
  here_seen e = handed (small_fits (carry ⊕ at k) here_most) (e ∙ here_is)

module _ (at : ℕ → ℤ) (k : ℕ) (carry : ℤ) where
  pub last_place : k ≡ 4 → nat_abs (carry ⊕ at k) < 2 ^ 63 → Some (carry ⊕ at k) ≡ told (carry ⊕ number at (5 - k) k)
  last_place e l =
      let one : 5 - k ≡ 1 = omega arith in
      sym (ap told (ap (λ a. carry ⊕ a) (ap (λ n. number at n k) one ∙ number_last at k))
      ∙ told_fits (carry ⊕ at k) (omega arith))

  -- with what is told of the next place on
  module _ (l : k < 4) {c : ℤ} (e : c ≡ carry ⊕ at k) where
    abbrev upper : ℤ
    upper = shr_z c base ⊕ number at (5 - (k + 1)) (k + 1)

    next_place : upper ⊗ pos base ⊕ pos (rest base c) ≡ carry ⊕ number at (5 - k) k
    next_place =
        let N = number at (5 - (k + 1)) (k + 1) in
        let more : 5 - k ≡ suc (5 - (k + 1)) = omega arith in
        let whole : number at (5 - k) k ≡ at k ⊕ N ⊗ pos base =
        ap (λ n. number at n k) more ∙ number_more at (5 - (k + 1)) k
        ∙ ap (λ q. at k ⊕ number at (5 - (k + 1)) q ⊗ pos base) (sym (add-one k)) in
        ap (λ n. n ⊗ pos base ⊕ pos (rest base c)) (⊕_comm (shr_z c base) N)
        ∙ carried base 2199023255552 refl (omega arith) N c
        ∙ ap (λ n. N ⊗ pos base ⊕ n) e
        ∙ ringℤ ((N ⊗ pos base) ∷ carry ∷ at k ∷ []) (x :+ (y :+ z)) (y :+ (z :+ x)) refl
        ∙ ap (λ n. carry ⊕ n) (sym whole)

    by_upper : option_and_then (λ u. told (u ⊗ pos base ⊕ pos (rest base c))) (told upper) ≡ told (carry ⊕ number at (5 - k) k)
    by_upper =
        told_joined base 2199023255552 refl (rest base c) (rest_below base (omega arith) c) (omega arith) upper
        ∙ ap told next_place

    pub place_out : told upper ≡ None → None ≡ told (carry ⊕ number at (5 - k) k)
    place_out o = rw o at by_upper

    pub place_is :
        {v d : ℤ} → told upper ≡ Some v → d ≡ pos (rest base c)
        → told (seen v ⊗ pos base ⊕ d) ≡ told (carry ⊕ number at (5 - k) k)
    place_is {v} t e =
        let fits : SFits w64 v = record { sfits = told_mag upper v t } in
        ap₂ (λ n m. told (n ⊗ pos base ⊕ m)) (to_z-of_z fits) e ∙ rw t at by_upper
