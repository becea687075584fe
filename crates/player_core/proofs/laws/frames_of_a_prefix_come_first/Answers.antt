use Rattle.player_core.proofs.PrefixLaws.{prefix_of_all}
use Rattle.player_core.proofs.laws.frames_of_a_prefix_come_first.Goals as goal

pub returns : goal.returns
returns c = λ d s before bytes is whole least all. prefix_of_all d s before bytes is whole least all
