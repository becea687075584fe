use Rattle.clip_core.proofs.SumLaws.{IsTotalSoFar}
use Rattle.clip_core.proofs.taps.total.Given as goal

abbrev pub invariant-loop-tap : goal.invariant-loop-tap
invariant-loop-tap l = IsTotalSoFar l.taps l.tap-index l.sum
