use Rattle.std.proofs.Common.{IsTrue}
use Rattle.null_core.proofs.ByteLaws.{BytesAlike}
use Rattle.null_core.proofs.compared.is_chunk_alike.Given as goal

abbrev pub invariant-loop-k : goal.invariant-loop-k
invariant-loop-k l = IsTrue l.same → BytesAlike l.bits l.first l.others l.own l.k
