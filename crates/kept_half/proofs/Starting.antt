-- The start of the kept half: 1 or -1, and zeros after it.
use Prim.Native.Nat.{ℕ, suc}
use mathlib.Core.Path.{◌≡◌, refl}
use mathlib.Core.Bool.{Bool, true, false, cond}
use lib.Dec.{eqb}
use lib.IntN.{nat_abs}
use Rattle.definitions.specs.Integers.{⊖, 0ℤ}
use Rattle.definitions.specs.Series.{constant, 𝟙, _ˢ}
use Rattle.definitions.specs.KeptHalf.{start}
use Rattle.step_laws.specs.Machine.{seen}

pub start_later : (kind k : ℕ) → start kind (suc k) ≡ 0ℤ
unfolding start constant _ˢ ⊖
start_later kind k = go (eqb kind 1)
  where
    go : (b : Bool) → cond b 𝟙 (_ˢ 𝟙) (suc k) ≡ 0ℤ
    go true = refl
    go false = refl

pub start_first : (kind : ℕ) → nat_abs (start kind 0) ≡ 1
unfolding start constant _ˢ ⊖
start_first kind = go (eqb kind 1)
  where
    go : (b : Bool) → nat_abs (cond b 𝟙 (_ˢ 𝟙) 0) ≡ 1
    go true = refl
    go false = refl

-- it fits a machine number
pub start_seen : (kind : ℕ) → seen (start kind 0) ≡ start kind 0
unfolding start constant _ˢ ⊖
start_seen kind = go (eqb kind 1)
  where
    go : (b : Bool) → seen (cond b 𝟙 (_ˢ 𝟙) 0) ≡ cond b 𝟙 (_ˢ 𝟙) 0
    go true = refl
    go false = refl
