use Rattle.std.proofs.Common.{length, ◌-◌, ◌≤◌}
use Rattle.clip_core.specs.Gains.{gain}
use Rattle.null_core.proofs.GainLaws.{IsGainedTo}
use Rattle.null_core.proofs.mixing.add_gained.Given as goal

abbrev pub invariant-loop-done : goal.invariant-loop-done
invariant-loop-done l = (l.done ≤ length l.sound) × IsGainedTo l.done (gain l.points) l.k l.sound l.fn.mixed l.mixed

abbrev pub decreases-loop-done : goal.decreases-loop-done
decreases-loop-done l = length l.sound - l.done
