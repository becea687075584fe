use Rattle.dsdiff_core.proofs.HeadLaws.{other_sound}
use Rattle.dsdiff_core.proofs.laws.bytes_of_sound_do_not_matter.Goals as goal

pub returns : goal.returns
returns c = other_sound
