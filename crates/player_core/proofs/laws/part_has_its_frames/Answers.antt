use Rattle.player_core.proofs.PartLaws.{part_is}
use Rattle.player_core.proofs.laws.part_has_its_frames.Goals as goal

pub returns : goal.returns
returns c = λ d s bytes a b is whole all ordered inside. part_is d s bytes is whole all a b ordered inside
