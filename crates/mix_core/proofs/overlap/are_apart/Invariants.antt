use Rattle.mix_core.proofs.OverlapLaws.{IsApartSoFar}
use Rattle.mix_core.proofs.overlap.are_apart.Given as goal

abbrev pub invariant-loop-clip : goal.invariant-loop-clip
invariant-loop-clip l = IsApartSoFar l.clips l.clip-index
