use Rattle.transfer_commands.proofs.SameSumLaws.{kept_sound_has_same_sums}
use Rattle.transfer_commands.proofs.laws.kept_sound_has_same_sums.Goals as goal

pub returns : goal.returns
returns c = kept_sound_has_same_sums
