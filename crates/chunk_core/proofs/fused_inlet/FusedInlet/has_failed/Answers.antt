use Rattle.std.proofs.Common.{arith}
use Rattle.std.proofs.lemmas.Grind.{common_steps}
use Rattle.chunk_core.proofs.fused_inlet.FusedInlet.has_failed.Goals as goal

pub returns-else-failures-gt0 : goal.returns-else-failures-gt0
returns-else-failures-gt0 g c = grind (arith, common_steps)
