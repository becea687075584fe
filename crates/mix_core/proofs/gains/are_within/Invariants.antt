use Rattle.mix_core.proofs.GainLaws.{RisesSoFar}
use Rattle.mix_core.proofs.gains.are_within.Given as goal

abbrev pub invariant-loop-point : goal.invariant-loop-point
invariant-loop-point l = RisesSoFar l.points l.least l.point-index
