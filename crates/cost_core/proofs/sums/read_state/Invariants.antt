use Rattle.std.proofs.Common.{◌≡◌, ◌^◌, ◌<◌, length, drop}
use Rattle.cost_core.specs.Trellis.{state_after}
use Rattle.cost_core.proofs.sums.read_state.Given as goal

abbrev pub invariant-loop-i : goal.invariant-loop-i
invariant-loop-i l =
    record {
      state : l.state < 2 ^ length l.bits;
      read : state_after (length l.bits) l.state (drop l.i l.bits) ≡ state_after (length l.bits) 0 l.bits;
    }
