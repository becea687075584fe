use Rattle.std.proofs.Common.{arith}
use Rattle.std.proofs.lemmas.Grind.{common_steps}
use Rattle.judge_core.proofs.comparing.is_titled.Goals as goal

pub returns-in_ok-titles-in-Dsdiff-clause-yes : goal.returns-in_ok-titles-in-Dsdiff-clause-yes
returns-in_ok-titles-in-Dsdiff-clause-yes c = grind (arith, common_steps)
