use Rattle.master_core.proofs.choosing.choose_bridge.Goals as goal

pub returns-in-Ok-clause-chosen : goal.returns-in-Ok-clause-chosen
returns-in-Ok-clause-chosen c = record { first_least = c.in-Ok.ensures.first_least; cost_is = c.in-Ok.ensures.cost }
