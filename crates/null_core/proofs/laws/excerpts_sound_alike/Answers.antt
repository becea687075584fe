use Rattle.null_core.proofs.ExcerptLaws.{excerpts_alike}
use Rattle.null_core.proofs.laws.excerpts_sound_alike.Goals as goal

pub returns : goal.returns
returns c = excerpts_alike
