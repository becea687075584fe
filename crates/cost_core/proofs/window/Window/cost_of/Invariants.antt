use Rattle.std.proofs.Common.{◌≡◌, ◌+◌, ◌*◌, ◌^◌, ◌<◌, ◌≤◌, length, drop}
use Rattle.cost_core.specs.Trellis.{cost, cost_from}
use Rattle.cost_core.specs.StateCosts.{trellis_of}
use Rattle.cost_core.proofs.window.Window.cost_of.Given as goal

abbrev pub invariant-loop-level : goal.invariant-loop-level
invariant-loop-level l =
    record {
      state : l.state < 2 ^ length l.self.preceding;
      total : l.total ≤ l.level * (33562624 * 33562624);
      sum : l.total + cost_from (trellis_of l.self) l.level l.state (drop l.level l.bits) ≡ cost (trellis_of l.self) l.bits;
    }
