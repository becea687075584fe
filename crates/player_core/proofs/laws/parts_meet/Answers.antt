use Rattle.player_core.proofs.PartLaws.{parts_meet}
use Rattle.player_core.proofs.laws.parts_meet.Goals as goal

pub returns : goal.returns
returns c = parts_meet
