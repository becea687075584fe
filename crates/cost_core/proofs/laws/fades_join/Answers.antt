use Rattle.cost_core.proofs.Joining.{fades_join}
use Rattle.cost_core.proofs.laws.fades_join.Goals as goal

pub returns : goal.returns
returns c = fades_join
