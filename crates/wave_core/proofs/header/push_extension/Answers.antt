use Rattle.std.proofs.Common.{arith}
use Rattle.std.proofs.lemmas.Grind.{common_steps}
use Rattle.wave_core.proofs.header.push_extension.Goals as goal

pub returns : goal.returns
returns c = grind (arith, common_steps)
