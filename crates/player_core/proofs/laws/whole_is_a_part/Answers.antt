use Rattle.player_core.proofs.PartLaws.{whole_is_part}
use Rattle.player_core.proofs.laws.whole_is_a_part.Goals as goal

pub returns : goal.returns
returns c = λ d s bytes is whole all. whole_is_part d s bytes is whole all
