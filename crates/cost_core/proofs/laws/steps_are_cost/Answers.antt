use Rattle.cost_core.proofs.Places.{steps_are_cost}
use Rattle.cost_core.proofs.laws.steps_are_cost.Goals as goal

pub returns : goal.returns
returns c = steps_are_cost
