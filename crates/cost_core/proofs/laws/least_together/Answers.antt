use Rattle.cost_core.proofs.Channels.{least_together}
use Rattle.cost_core.proofs.laws.least_together.Goals as goal

pub returns : goal.returns
returns c = least_together
