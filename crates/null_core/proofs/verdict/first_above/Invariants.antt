use Rattle.std.proofs.Common.{◌≤◌, All, take}
use Rattle.null_core.specs.declared.stretch.Stretch.{Stretch}
use Rattle.null_core.proofs.verdict.first_above.Given as goal

abbrev pub invariant-loop-number : goal.invariant-loop-number
invariant-loop-number l = All (λ (s : Stretch). s.residual ≤ l.limit) (take l.number l.stretches)
