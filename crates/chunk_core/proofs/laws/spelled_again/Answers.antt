use Rattle.chunk_core.proofs.SpelledAgain.{all_spelled_are}
use Rattle.chunk_core.proofs.laws.spelled_again.Goals as goal

pub returns : goal.returns
returns c = all_spelled_are
