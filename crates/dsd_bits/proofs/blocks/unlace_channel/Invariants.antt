use Rattle.std.proofs.Common.{◌≡◌, ◌*◌, min, map}
use Rattle.dsd_bits.specs.Blocks.{ordered}
use Rattle.dsd_bits.proofs.BlockLemmas.{own_blocks}
use Rattle.dsd_bits.proofs.blocks.unlace_channel.Given as goal

abbrev pub invariant-loop-group : goal.invariant-loop-group
invariant-loop-group l = l.own.items ≡ map (ordered l.order) (own_blocks l.bytes l.channels l.c (min (4096 * l.group) l.size))
