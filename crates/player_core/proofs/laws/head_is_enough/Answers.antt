use Rattle.player_core.proofs.ReachLaws.{head_is_enough}
use Rattle.player_core.proofs.laws.head_is_enough.Goals as goal

pub returns : goal.returns
returns c = head_is_enough
