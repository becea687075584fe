-- No state so far exceeds what the states before it set.
use Rattle.std.proofs.Common.{ℕ, ◌<◌}
use Rattle.cost_core.specs.StateCosts.{trellis_of}
use Rattle.cert_core.specs.Reasons.{Exceeds}
use Rattle.cert_core.proofs.rows.exceeding.Given as goal

abbrev pub invariant-loop-state : goal.invariant-loop-state
invariant-loop-state l = (k : ℕ) → k < l.state → Exceeds (trellis_of l.rows.window.now) l.rows.level l.rows.previous.now l.rows.row.now k → ⊥
