use Rattle.std.proofs.Common.{arith}
use Rattle.std.proofs.lemmas.Grind.{common_steps}
use Rattle.dsd_bits.proofs.layouts.usual_layout.Goals as goal

pub returns-else-number-lt5 : goal.returns-else-number-lt5
returns-else-number-lt5 c = grind (arith, common_steps)
