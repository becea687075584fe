use Rattle.player_core.proofs.SoundLaws.{frames_fill}
use Rattle.player_core.proofs.laws.frames_fill_the_data.Goals as goal

pub returns : goal.returns
returns c = frames_fill
