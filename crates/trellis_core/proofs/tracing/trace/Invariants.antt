use Rattle.std.proofs.Common.{◌≡◌, ◌≤◌, ◌<◌, ◌++◌}
use Rattle.cost_core.specs.Trellis.{states}
use Rattle.cost_core.specs.StateCosts.{trellis_of}
use Rattle.trellis_core.specs.Best.{traced}
use Rattle.trellis_core.proofs.tracing.trace.Given as goal

abbrev pub invariant-loop-level : goal.invariant-loop-level
invariant-loop-level l =
    let t = trellis_of l.window in
    record {
      level : l.level ≤ t.levels;
      state : l.state < states t;
      bits : l.bits.items ++ traced t l.level l.state ≡ traced t t.levels l.end;
    }

abbrev pub decreases-loop-level : goal.decreases-loop-level
decreases-loop-level l = l.level
