use Rattle.std.proofs.Common.{take}
use Rattle.null_core.specs.Verdicts.{IsGreatestIn}
use Rattle.null_core.proofs.verdict.greatest_of.Given as goal

abbrev pub invariant-loop-stretch : goal.invariant-loop-stretch
invariant-loop-stretch l = IsGreatestIn (take l.stretch-index l.stretches) l.greatest
