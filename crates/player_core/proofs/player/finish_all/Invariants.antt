use Rattle.player_core.proofs.FinishLoop.{FinishedUpTo}
use Rattle.player_core.proofs.player.finish_all.Given as goal

abbrev pub invariant-loop-stream : goal.invariant-loop-stream
invariant-loop-stream l = FinishedUpTo l.initial.streams l.streams l.tile.items l.stream-index
