use Rattle.null_core.proofs.own.past_other.Given as goal

abbrev pub invariant-loop-place : goal.invariant-loop-place
invariant-loop-place l = Unit {0}
