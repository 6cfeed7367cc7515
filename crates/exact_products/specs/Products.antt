-- A product in place: when its coefficient at i can be taken, and by which terms.
use Rattle.std.specs.Prelude.{◌≡◌, List, ℕ, ◌+◌, ◌-◌, ◌≤◌, ◌<◌, min, length, ℤ}
use Rattle.std.proofs.Common.{arith}
use Rattle.definitions.specs.Integers.{0ℤ}
use Rattle.definitions.specs.Steps.{entries}
use Rattle.step_laws.specs.Firsts.{entries_past}
use Rattle.light_sums.specs.Terms.{Terms}

pub record Ready (b f : List ℤ) (have i : ℕ) : Type 0 where
  pub some : 1 ≤ have
  pub factor : 1 ≤ length f
  pub few : length f ≤ 65536
  pub room : length b + 1 ≤ have + length f
  pub inside : i < length b
  pub zeros : (k : ℕ) → have ≤ k → k ≤ i → entries b k ≡ 0ℤ

-- the terms that are taken
pub ready_terms : (b f : List ℤ) (have i from to : ℕ) → Ready b f have i → from ≡ i + 1 - have
    → to ≡ min (i + 1) (length f) → Terms f b i from to
ready_terms b f have i from to r e g =
    record {
      inside = r.inside;
      order = omega (arith, r.some, r.factor, r.room, r.inside);
      few = omega arith;
      most = omega arith;
      before = λ j l. r.zeros (i - j) (omega arith) (omega arith);
      after = λ j l m. entries_past f j (omega arith);
    }
