use Rattle.player_core.proofs.SoundLaws.{file_has_size}
use Rattle.player_core.proofs.laws.file_has_its_size.Goals as goal

pub returns : goal.returns
returns c = file_has_size
