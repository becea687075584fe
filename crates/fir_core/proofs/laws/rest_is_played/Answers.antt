use Rattle.fir_core.proofs.RestLaws.{rest_is_played}
use Rattle.fir_core.proofs.laws.rest_is_played.Goals as goal

pub returns : goal.returns
returns c = rest_is_played
