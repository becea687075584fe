use Rattle.std.proofs.Common.{◌-ℤ◌, unsigned_abs}
use Rattle.std.specs.Prelude.{◌<ℤ◌}
use Rattle.heard_core.specs.Levels.{IsAtMost}
use Rattle.heard_core.proofs.decibels.hundredths.Given as goal

abbrev pub invariant-loop-low : goal.invariant-loop-low
invariant-loop-low l = record {
  order : l.low <ℤ l.high;
  not_low : IsAtMost l.value l.full l.low → ⊥;
  high_is : IsAtMost l.value l.full l.high;
}

abbrev pub decreases-loop-low : goal.decreases-loop-low
decreases-loop-low l = unsigned_abs (l.high -ℤ l.low)
