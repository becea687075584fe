use Rattle.std.proofs.Common.{arith}
use Rattle.null_core.proofs.BlockLaws.{same_block}
use Rattle.null_core.proofs.channel.block_in.Goals as goal

pub returns : goal.returns
returns c = same_block c.args.bits.now c.args.part.now.bits.now c.args.from c.in_ok-first.first 65536 c.alike_bits.result c.requires.inside (omega (arith, c.if-count-first.false, c.len-count.ensures.value)) (omega (arith, c.if-alike_bits-lt-BLOCK.false)) c.alike_bits.ensures.alike
