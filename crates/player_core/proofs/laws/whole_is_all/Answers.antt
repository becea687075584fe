use Rattle.player_core.proofs.PlayLaws.{whole_is_all}
use Rattle.player_core.proofs.laws.whole_is_all.Goals as goal

pub returns : goal.returns
returns c = whole_is_all
