use Rattle.std.proofs.Common.{arith, subst}
use Rattle.null_core.specs.Channels.{IsFull}
use Rattle.null_core.proofs.BlockLaws.{within}
use Rattle.null_core.proofs.channel.piece_of.Goals as goal

pub overflow_add-result : goal.overflow_add-result
overflow_add-result c = omega (arith, within c.in-OfPart.bits.now c.in-OfPart.first 65536 (omega arith) (subst IsFull c.in-OfPart.is c.requires.full), c.len-count.ensures.value, c.len-count.ensures.in_limit)
