use Rattle.std.specs.List.{IsFirstBest}
use Rattle.null_core.specs.Chunks.{is_louder}
use Rattle.null_core.proofs.peak.loudest.Given as goal

abbrev pub invariant-loop-i : goal.invariant-loop-i
invariant-loop-i l = IsFirstBest is_louder l.sums l.i l.best
