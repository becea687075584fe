use Rattle.std.proofs.Common.{arith}
use Rattle.std.proofs.lemmas.Grind.{common_steps}
use Rattle.dsd_bits.proofs.layouts.layout_channels.Goals as goal

pub returns-then-layout-lt8 : goal.returns-then-layout-lt8
returns-then-layout-lt8 c = grind (arith, common_steps)
