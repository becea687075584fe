use Rattle.std.proofs.Common.{ap, arith, length}
use Rattle.null_core.proofs.BlockLaws.{length-channel}
use Rattle.null_core.proofs.channel.Channel.len.Goals as goal

pub overflow_mul-result : goal.overflow_mul-result
overflow_mul-result c = omega (arith, length-channel c.self.inside.blocks.items c.self.inside.last c.self.invariant.full, c.self.invariant.few, c.len.ensures)

pub overflow_add-result : goal.overflow_add-result
overflow_add-result c = omega (arith, length-channel c.self.inside.blocks.items c.self.inside.last c.self.invariant.full, c.self.invariant.few, c.len.ensures, c.len-2.ensures.value)

pub returns-clause-value : goal.returns-clause-value
returns-clause-value c = omega (arith, length-channel c.self.inside.blocks.items c.self.inside.last c.self.invariant.full, c.len.ensures, c.len-2.ensures.value, ap length c.self.view_is)
