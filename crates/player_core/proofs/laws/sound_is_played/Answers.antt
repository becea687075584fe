use Rattle.player_core.proofs.SoundLaws.{sound_is_played}
use Rattle.player_core.proofs.laws.sound_is_played.Goals as goal

pub returns : goal.returns
returns c = sound_is_played c.parts_join.ensures
