use Rattle.dsdiff_core.proofs.OtherSound.{has_head}
use Rattle.dsdiff_core.proofs.laws.accepted_files_have_a_head.Goals as goal

pub returns : goal.returns
returns c = has_head
