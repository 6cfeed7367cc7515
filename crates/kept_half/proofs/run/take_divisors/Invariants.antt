-- `take_divisors` meets its contract. The loop's invariant is where a run stands after i divisors (Running).
use Prim.Native.Nat.{◌+◌}
use mathlib.Core.Path.{◌≡◌}
use lib.ListN.{length}
use Rattle.std.specs.Iterator.Adapters.{take_source, take_count}
use Rattle.kept_half.proofs.Running.{Running}
use Rattle.kept_half.proofs.run.take_divisors.Given as goal

abbrev pub invariant-loop-divisor : goal.invariant-loop-divisor
invariant-loop-divisor l =
    record {
      can : goal.iterator-loop-divisor.can_next l.divisor-iterator;
      finite : goal.iterator-loop-divisor.is_finite l.divisor-iterator;
      left : take_count l.divisor-iterator + length l.yielded ≡ l.fn.j;
      here :
          Running l.fn.w l.fn.kind l.fn.walk.r (length l.yielded) l.additions l.told.bound
          (take_source l.divisor-iterator) l.told.outline l.a;
    }
