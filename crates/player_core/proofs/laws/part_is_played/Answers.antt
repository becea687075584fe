use Rattle.player_core.proofs.PlayLaws.{part_is_played}
use Rattle.player_core.proofs.laws.part_is_played.Goals as goal

pub returns : goal.returns
returns c = part_is_played c.parts_join.ensures
