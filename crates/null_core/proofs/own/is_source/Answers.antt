use Rattle.std.proofs.Common.{arith}
use Rattle.std.proofs.lemmas.Grind.{common_steps}
use Rattle.null_core.proofs.own.is_source.Goals as goal

pub returns-then-other-source : goal.returns-then-other-source
returns-then-other-source c = grind (arith, common_steps)
