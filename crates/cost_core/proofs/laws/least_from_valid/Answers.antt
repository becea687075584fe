use Rattle.cost_core.proofs.Leasts.{least_from_valid}
use Rattle.cost_core.proofs.laws.least_from_valid.Goals as goal

pub returns : goal.returns
returns c = least_from_valid
