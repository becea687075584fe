use Rattle.mix_core.proofs.MixLaws.{text_again, text_ok}
use Rattle.mix_core.proofs.laws.read_as_said.Goals as goal

pub returns : goal.returns
returns c = λ bytes x. (text_ok bytes x, text_again bytes x)
