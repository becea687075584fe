use Rattle.player_core.proofs.SoundLaws.{nothing_is_due}
use Rattle.player_core.proofs.laws.nothing_is_due_at_first.Goals as goal

pub returns : goal.returns
returns c = nothing_is_due
