-- The sums of the states so far are written.
use Rattle.std.proofs.Common.{◌≡◌, ℕ, ◌<◌, get_or}
use Rattle.cost_core.specs.StateCosts.{trellis_of}
use Rattle.trellis_core.specs.Best.{best}
use Rattle.trellis_core.proofs.rows.write_first_row.Given as goal

abbrev pub invariant-loop-state : goal.invariant-loop-state
invariant-loop-state l = (k : ℕ) → k < l.state → get_or l.row k 0 ≡ best (trellis_of l.window) 0 k
