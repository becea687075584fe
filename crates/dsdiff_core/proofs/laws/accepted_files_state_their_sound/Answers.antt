use Rattle.dsdiff_core.proofs.StatedLaws.{sound_is_stated}
use Rattle.dsdiff_core.proofs.laws.accepted_files_state_their_sound.Goals as goal

pub returns : goal.returns
returns c = sound_is_stated
