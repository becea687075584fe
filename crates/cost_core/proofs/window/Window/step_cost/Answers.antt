use Rattle.cost_core.proofs.window.Window.step_cost.Goals as goal

pub returns : goal.returns
returns c = c.deviation.ensures.value
