use Rattle.dsf_core.proofs.DescribingLaws.{other_bytes}
use Rattle.dsf_core.proofs.laws.bytes_of_sound_do_not_matter.Goals as goal

pub returns : goal.returns
returns c = other_bytes
