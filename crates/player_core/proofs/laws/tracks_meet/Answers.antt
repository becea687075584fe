use Rattle.player_core.proofs.ReachLaws.{tracks_meet}
use Rattle.player_core.proofs.laws.tracks_meet.Goals as goal

pub returns : goal.returns
returns c = tracks_meet
