use Rattle.dsf_core.proofs.StatedLaws.{found_is_stated}
use Rattle.dsf_core.proofs.laws.what_is_stated_is_found.Goals as goal

pub returns : goal.returns
returns c = found_is_stated
