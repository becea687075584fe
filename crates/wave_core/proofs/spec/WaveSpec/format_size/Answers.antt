use Rattle.std.proofs.Common.{arith}
use Rattle.std.proofs.lemmas.Grind.{common_steps}
use Rattle.wave_core.proofs.spec.WaveSpec.format_size.Goals as goal

pub returns-then-is_extensible-clause-size : goal.returns-then-is_extensible-clause-size
returns-then-is_extensible-clause-size c = grind (arith, common_steps)
