use Rattle.player_core.proofs.LoopLaws.{FedAsGroups}
use Rattle.player_core.proofs.player.feed_all.Given as goal

abbrev pub invariant-loop-channel : goal.invariant-loop-channel
invariant-loop-channel l = FedAsGroups l.groups l.initial.streams l.streams l.tile.items l.channel
