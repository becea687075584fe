use Rattle.dsdiff_core.proofs.HeaderEnds.{ends_prefix}
use Rattle.dsdiff_core.proofs.laws.header_ends_at_sound.Goals as goal

pub returns : goal.returns
returns c = ends_prefix
