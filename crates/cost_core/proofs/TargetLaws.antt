-- What holds of the targets of a bridge, whichever its cue asks for.
use Rattle.std.proofs.Common.{◌≡◌, ℕ, ◌+◌, ◌-◌, ◌*◌, ◌≤◌, Bool, List, length, get_or, refl, ℤ, pos, unsigned_abs}
use Rattle.std.proofs.lemmas.List.FromFn.{length-map-range_with_len}
use Rattle.splice_core.specs.Cues.{AreWeights, IsTarget}
use Rattle.splice_core.specs.declared.cue.Target.{Target}
use Rattle.splice_core.specs.declared.cue.Target.TheVariants.{Fade, Line}
use Rattle.cost_core.specs.Fade.{fade}
use Rattle.cost_core.specs.Line.{line}
use Rattle.cost_core.specs.Targets.{targets_of}
use Rattle.cost_core.proofs.Fades.{fade_targets_in}
use Rattle.cost_core.proofs.Lines.{line_targets_in}

-- there is one for each place
pub targets_number : (t : Target) (weights : List ℤ) (a : List Bool) (stop : ℕ) (b : List Bool) (start levels : ℕ) → length (targets_of t weights a stop b start levels) ≡ levels + (length weights - 1)
targets_number Fade weights a stop b start levels = length-map-range_with_len (fade weights a stop b start levels) 1 (levels + (length weights - 1))
targets_number (Line from to) weights a stop b start levels = length-map-range_with_len (line from to levels) 1 (levels + (length weights - 1))

-- and none is greater than the weights allow
pub targets_small : (t : Target) → IsTarget t → (weights : List ℤ) → AreWeights weights → (a : List Bool) (stop : ℕ) (b : List Bool) (start levels k : ℕ) → unsigned_abs (get_or (targets_of t weights a stop b start levels) k (pos 0)) ≤ (levels + 1) * 4096
targets_small Fade fits weights fine a stop b start levels k = fade_targets_in weights fine a stop b start levels k
targets_small (Line from to) fits weights fine a stop b start levels k = line_targets_in from to (fits from to refl) (length weights) levels k
