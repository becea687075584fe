use Rattle.trellis_core.proofs.bridging.bridge.Goals as goal

pub returns-in-Ok-clause-first_least : goal.returns-in-Ok-clause-first_least
returns-in-Ok-clause-first_least c = c.in-Ok.ensures.first_least

pub returns-in-Ok-clause-cost : goal.returns-in-Ok-clause-cost
returns-in-Ok-clause-cost c = c.in-Ok.ensures.cost
