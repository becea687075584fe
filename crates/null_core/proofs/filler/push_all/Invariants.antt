use Rattle.null_core.proofs.FillLaws.{LongerUpTo}
use Rattle.null_core.proofs.filler.push_all.Given as goal

abbrev pub invariant-loop-c : goal.invariant-loop-c
invariant-loop-c l = LongerUpTo l.bits l.initial.channels l.channels l.c
