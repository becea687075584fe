use Rattle.wave_core.proofs.JoinLaws.{sound_is_same}
use Rattle.wave_core.proofs.writing.sound_is_same.Goals as goal

pub returns : goal.returns
returns c = sound_is_same
