-- `gain::gain_of` meets its contract: by what the gains are (cyclotomic/Gain), and phi(m) = m - 1 tells that m is
-- prime.
use Prim.Native.Nat.{ℕ, ◌-◌, ◌<◌, ◌≤◌}
use mathlib.Core.Path.{◌≡◌, sym, ◌∙◌, ap}
use mathlib.Core.Bool.{true}
use mathlib.Core.Logic.{◌≢◌}
use native.Mathlib.Omega.{arith}
use native.Mathlib.Nat.{le_of_dvd}
use lib.IntN.{pos}
use mir.Syntax.{w64}
use mir.Facts.{to_z-of_z}
use Rattle.definitions.specs.Numbers.{phi, r_of, m_of}
use Rattle.definitions.specs.Requests.{good_index}
use Rattle.definitions.specs.Answer.{gain}
use Rattle.numbers.specs.Apart.{m-divides, m-pos, m-above}
use Rattle.numbers.specs.PhiPrime.{prime_phi}
use Rattle.numbers.specs.PhiApart.{phi-m}
use Rattle.cyclotomic.specs.Gain.{gains, gain_prime, gain_composite, gain_else}
use Rattle.index.proofs.Laws.{index_good, parts_m, parts_free}
use Rattle.gain.proofs.gain_of.Goals as goal
use Rattle.gain.proofs.gain_of.Goals.{Start}

-- ---- phi(m) = m - 1 exactly where m is prime
module _ (n m free : ℕ) (em : m ≡ m_of n) (ef : free ≡ phi (r_of n)) (l : 1 < n) where
  prime_where : free ≡ m - 1 → gain 1 n ≡ pos m
  prime_where e =
      gain_prime n (omega arith) ((prime_phi (m_of n) (m-above n l)).0 (omega (arith, phi-m n, m-above n l)))
      ∙ ap pos (sym em)

  one_where : free ≢ m - 1 → gain 1 n ≡ pos 1
  one_where u =
      gain_composite n l (λ P. u (omega (arith, (prime_phi (m_of n) (m-above n l)).1 P, phi-m n, m-above n l)))

m_within : (n m : ℕ) → m ≡ m_of n → good_index n ≡ true → (0 < m) × (m ≤ n) × (n ≤ 65535)
m_within n m e g =
    let (a, b) = index_good n g in rw e (m-pos n a, le_of_dvd a (m-divides n), b)

-- ---- the needs
module _ (s : Start) where
  abbrev is_m : s.args.parts.m ≡ m_of s.args.n
  is_m = parts_m s.args.n s.args.parts s.requires.0

  abbrev is_free : s.args.parts.free ≡ phi (r_of s.args.n)
  is_free = parts_free s.args.n s.args.parts s.requires.0

  abbrev m_small : (0 < s.args.parts.m) × (s.args.parts.m ≤ s.args.n) × (s.args.n ≤ 65535)
  m_small = m_within s.args.n _ is_m s.requires.1

  above : s.args.n ≢ 1 → 1 < s.args.n
  above u = omega (arith, (index_good s.args.n s.requires.1).0)

pub returns-then-n-eq1 : goal.returns-then-n-eq1
returns-then-n-eq1 c = (rw (c.if-kind-eq1.true, c.if-n-eq1.true) (sym gains.F_at_one), omega arith)

pub overflow_sub-m : goal.overflow_sub-m
overflow_sub-m c = omega (arith, (m_small (goal.at.overflow_sub-m c).Start).0)

pub overflow_cast-result : goal.overflow_cast-result
overflow_cast-result c = let h = m_small (goal.at.overflow_cast-result c).Start in omega (arith, h.1, h.2)

pub returns-then-parts-m : goal.returns-then-parts-m
returns-then-parts-m c =
    let s = (goal.at.returns-then-parts-m c).Start in
    let h = m_small s in
    let back = to_z-of_z {w = w64} {z = pos s.args.parts.m} (record { sfits = omega (arith, h.1, h.2) }) in (
      rw c.if-kind-eq1.true
          (back ∙ sym (prime_where s.args.n _ _ (is_m s) (is_free s) (above s c.if-n-eq1.false)
          c.if-parts-m.true)),
      rw back (omega (arith, h.1, h.2)),
    )

pub returns-then-kind-eq1 : goal.returns-then-kind-eq1
returns-then-kind-eq1 c =
    let s = (goal.at.returns-then-kind-eq1 c).Start in (
      rw c.if-kind-eq1.true
          (sym (one_where s.args.n _ _ (is_m s) (is_free s) (above s c.if-n-eq1.false)
          c.if-parts-m.false)),
      omega arith,
    )

pub returns-then-n-eq1-2 : goal.returns-then-n-eq1-2
returns-then-n-eq1-2 c = (rw (gain_else _ _ c.if-kind-eq1.false, c.if-n-eq1-2.true) (sym gains.I_at_one), omega arith)

pub returns-else-n-eq1-2 : goal.returns-else-n-eq1-2
returns-else-n-eq1-2 c =
    let s = (goal.at.returns-else-n-eq1-2 c).Start in (
      rw (gain_else _ s.args.n c.if-kind-eq1.false)
          (sym (gains.I_elsewhere s.args.n (above s c.if-n-eq1-2.false))),
      omega arith,
    )
