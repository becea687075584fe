use Rattle.null_core.proofs.ByteLaws.{BytesAlike}
use Rattle.null_core.proofs.compared.alike_bytes.Given as goal

abbrev pub invariant-loop-k : goal.invariant-loop-k
invariant-loop-k l = BytesAlike l.bits l.first l.others l.own l.k
