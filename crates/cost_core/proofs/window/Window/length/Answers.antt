use Rattle.cost_core.specs.View.{bridging_of}
use Rattle.cost_core.proofs.Limits.{costs_in_bounds}
use Rattle.cost_core.proofs.window.Window.length.Goals as goal

pub returns-clause-bounded : goal.returns-clause-bounded
returns-clause-bounded c = rw (← c.self.view_is) (costs_in_bounds (bridging_of c.self.inside) c.self.invariant.limits)
