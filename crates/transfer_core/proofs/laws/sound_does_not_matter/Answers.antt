use Rattle.transfer_core.proofs.UnreadFiles.{sound_does_not_matter}
use Rattle.transfer_core.proofs.laws.sound_does_not_matter.Goals as goal

pub returns : goal.returns
returns c = sound_does_not_matter
