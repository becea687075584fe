use Rattle.std.proofs.Common.{◌*◌}
use Rattle.null_core.proofs.ByteLaws.{BytesAlike}
use Rattle.null_core.proofs.compared.alike_chunks.Given as goal

abbrev pub invariant-loop-k : goal.invariant-loop-k
invariant-loop-k l = BytesAlike l.bits l.first l.others l.own (64 * l.k)
