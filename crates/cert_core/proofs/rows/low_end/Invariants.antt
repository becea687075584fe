-- No end so far is below the stated cost.
use Rattle.std.proofs.Common.{ℕ, ◌<◌, ◌≤◌, ◌+◌, get_or}
use Rattle.cost_core.specs.StateCosts.{trellis_of}
use Rattle.cert_core.proofs.rows.low_end.Given as goal

abbrev pub invariant-loop-state : goal.invariant-loop-state
invariant-loop-state l = (k : ℕ) → k < l.state → l.stated ≤ get_or l.last k 0 + (trellis_of l.window).tail k
