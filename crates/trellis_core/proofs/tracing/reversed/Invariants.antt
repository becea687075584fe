use Rattle.std.proofs.Common.{◌≡◌, ◌-◌, length, drop, reverse}
use Rattle.trellis_core.proofs.tracing.reversed.Given as goal

abbrev pub invariant-loop-i : goal.invariant-loop-i
invariant-loop-i l =
    record {
      count : length l.bits ≡ l.i;
      bits : l.bits ≡ reverse (drop (length l.newest_first - l.i) l.newest_first);
    }
