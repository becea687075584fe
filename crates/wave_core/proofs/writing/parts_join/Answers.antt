use Rattle.wave_core.proofs.JoinLaws.{parts_join}
use Rattle.wave_core.proofs.writing.parts_join.Goals as goal

pub returns : goal.returns
returns c = parts_join
