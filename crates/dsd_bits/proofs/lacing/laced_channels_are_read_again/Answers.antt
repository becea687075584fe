use Rattle.dsd_bits.proofs.LacingLemmas.{unlaced_all-laced}
use Rattle.dsd_bits.proofs.lacing.laced_channels_are_read_again.Goals as goal

pub returns : goal.returns
returns c = unlaced_all-laced
