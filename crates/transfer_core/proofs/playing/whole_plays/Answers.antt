use Rattle.transfer_core.proofs.StreamLaws.{whole_plays}
use Rattle.transfer_core.proofs.playing.whole_plays.Goals as goal

pub returns : goal.returns
returns c = whole_plays c.whole_is_all.ensures
