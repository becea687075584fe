use Rattle.cost_core.proofs.Limits.{costs_in_bounds}
use Rattle.cost_core.proofs.laws.costs_in_bounds.Goals as goal

pub returns : goal.returns
returns c = costs_in_bounds
