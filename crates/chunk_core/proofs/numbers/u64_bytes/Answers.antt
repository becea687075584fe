use Rattle.std.proofs.Common.{arith}
use Rattle.std.proofs.lemmas.Grind.{common_steps}
use Rattle.chunk_core.proofs.numbers.u64_bytes.Goals as goal

pub returns-in-Big : goal.returns-in-Big
returns-in-Big c = grind (arith, common_steps)
