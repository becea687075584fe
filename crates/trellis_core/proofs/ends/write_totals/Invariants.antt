-- The totals below a state are made, and the others are tails.
use Rattle.std.proofs.Common.{◌≡◌, ℕ, ◌<◌, ◌≤◌, get_or}
use Rattle.cost_core.specs.Trellis.{states}
use Rattle.cost_core.specs.StateCosts.{trellis_of}
use Rattle.trellis_core.specs.Best.{total}
use Rattle.trellis_core.proofs.ends.write_totals.Given as goal

abbrev pub invariant-loop-state : goal.invariant-loop-state
invariant-loop-state l =
    let t = trellis_of l.window in
    record {
      totals : (q : ℕ) → q < l.state → get_or l.totals q 0 ≡ total t q;
      tails : (q : ℕ) → l.state ≤ q → q < states t → get_or l.totals q 0 ≡ t.tail q;
    }
