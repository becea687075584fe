use Rattle.dsf_core.proofs.HeaderLaws.{ends_prefix}
use Rattle.dsf_core.proofs.laws.header_ends_at_sound.Goals as goal

pub returns : goal.returns
returns c = ends_prefix
