-- What a bridge is held against, by the target of the cue before it, and the bits that this reads.
use Rattle.std.specs.Prelude.{ℕ, ◌+◌, ◌-◌, ℤ, Bool, List, length}
use Rattle.splice_core.specs.declared.cue.Target.{Target}
use Rattle.splice_core.specs.declared.cue.Target.TheVariants.{Fade, Line}
use Rattle.cost_core.specs.Fade.{fade_targets}
use Rattle.cost_core.specs.Line.{line_targets}

-- the targets of all places of a bridge of n bits, from the end `stop` of a cue in the take a to the start of a cue in
-- the take b
abbrev pub targets_of : Target → List ℤ → List Bool → ℕ → List Bool → ℕ → ℕ → List ℤ
targets_of Fade weights a stop b start levels = fade_targets weights a stop b start levels
targets_of (Line from to) weights a stop b start levels = line_targets from to (length weights) levels

-- how many bits beyond its cues a target reads: before the next cue in that cue's take, and after the cue in its own
pub record Reach : Type 0 where
  pub before : ℕ
  pub after : ℕ

-- the reach of the target of a bridge of n bits, for a number of weights: a line reads no bits
abbrev pub reach_of : Target → ℕ → ℕ → Reach
reach_of Fade weights levels = record { before = levels + (weights - 1); after = levels }
reach_of (Line from to) weights levels = record { before = 0; after = 0 }
