use Rattle.sound_core.proofs.StatedLaws.{one_sound}
use Rattle.sound_core.proofs.laws.accepted_files_state_one_sound.Goals as goal

pub returns : goal.returns
returns c = one_sound
