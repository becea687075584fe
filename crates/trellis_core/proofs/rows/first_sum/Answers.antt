use Rattle.std.proofs.Common.{arith}
use Rattle.std.proofs.lemmas.Grind.{common_steps}
use Rattle.trellis_core.specs.Best.{best}
use Rattle.trellis_core.proofs.rows.first_sum.Goals as goal

pub returns-else-state-start : goal.returns-else-state-start
unfolding best
returns-else-state-start c = grind (arith, common_steps)
