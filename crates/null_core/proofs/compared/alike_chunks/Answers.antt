use Rattle.std.proofs.Common.{refl}
use Rattle.null_core.proofs.ByteLaws.{chunk_more}
use Rattle.null_core.proofs.compared.alike_chunks.Goals as goal

pub loop-k-preserved : goal.loop-k-preserved
loop-k-preserved c = chunk_more c.args.bits.now c.args.others.now c.args.first c.args.own c.loop-k.k c.loop-k.invariant (c.if-not-is_chunk_alike.ensures refl)
