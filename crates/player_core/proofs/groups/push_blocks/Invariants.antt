use Rattle.std.proofs.Common.{◌≡◌, ◌*◌, ◌++◌, min, map}
use Rattle.dsd_bits.specs.Blocks.{ordered}
use Rattle.dsd_bits.proofs.BlockLemmas.{own_blocks}
use Rattle.player_core.proofs.groups.push_blocks.Given as goal

abbrev pub invariant-loop-group : goal.invariant-loop-group
invariant-loop-group l = l.own.items ≡ l.initial.own.items ++ map (ordered l.order) (own_blocks l.groups l.channels l.channel (min (4096 * l.group) l.number))
