use Rattle.std.proofs.Common.{◌≤◌, Global, Vec, map}
use Rattle.null_core.specs.declared.stretch.Stretch.{Stretch}
use Rattle.null_core.specs.Verdicts.{IsGreatestTo}
use Rattle.null_core.proofs.verdict.verdict_by.Given as goal

abbrev pub invariant-loop-channel : goal.invariant-loop-channel
invariant-loop-channel l = IsGreatestTo (map (λ (found : Vec Stretch Global). found.items) l.stretches) l.channel l.greatest × (l.greatest ≤ l.limit)
