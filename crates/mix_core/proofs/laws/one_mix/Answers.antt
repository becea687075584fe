use Rattle.mix_core.proofs.MixLaws.{one_mix}
use Rattle.mix_core.proofs.laws.one_mix.Goals as goal

pub returns : goal.returns
returns c = one_mix
