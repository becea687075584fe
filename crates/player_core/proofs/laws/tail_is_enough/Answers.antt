use Rattle.player_core.proofs.ReachLaws.{tail_is_enough}
use Rattle.player_core.proofs.laws.tail_is_enough.Goals as goal

pub returns : goal.returns
returns c = tail_is_enough
