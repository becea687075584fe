use Rattle.std.proofs.Common.{Global, Vec, map}
use Rattle.null_core.specs.declared.stretch.Stretch.{Stretch}
use Rattle.null_core.specs.Verdicts.{AreJudgedTo}
use Rattle.null_core.proofs.verdict.judge_channels.Given as goal

abbrev pub invariant-loop-channel : goal.invariant-loop-channel
invariant-loop-channel g l = AreJudgedTo l.mixed l.channels l.channel (map (λ (found : Vec Stretch Global). found.items) l.stretches.items)
