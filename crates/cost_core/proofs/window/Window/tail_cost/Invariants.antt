use Rattle.std.proofs.Common.{◌≡◌, ◌+◌, ◌*◌, ◌^◌, ◌<◌, ◌≤◌, length, drop}
use Rattle.cost_core.specs.Trellis.{steps}
use Rattle.cost_core.specs.StateCosts.{step_of}
use Rattle.cost_core.proofs.window.Window.tail_cost.Given as goal

abbrev pub invariant-loop-i : goal.invariant-loop-i
invariant-loop-i l =
    record {
      state : l.state < 2 ^ length l.self.preceding;
      total : l.total ≤ l.i * (33562624 * 33562624);
      sum : l.total + steps (length l.self.preceding) (step_of l.self) (l.self.levels + l.i) l.state (drop l.i l.self.following) ≡ steps (length l.self.preceding) (step_of l.self) l.self.levels l.fn.state l.self.following;
    }
