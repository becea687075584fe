use Rattle.speaker_core.proofs.ChannelLaws.{reordered_hold}
use Rattle.speaker_core.proofs.reordering.reordered_bytes_hold_channels.Goals as goal

pub returns : goal.returns
returns c = reordered_hold
