use Rattle.std.proofs.Common.{arith}
use Rattle.chunk_core.proofs.heads.head.Goals as goal

pub returns-then-bytes-lt12 : goal.returns-then-bytes-lt12
returns-then-bytes-lt12 c = omega arith
