use Rattle.heard_core.proofs.bounds.+power.Given as goal

abbrev pub decreases-power : goal.decreases-power
decreases-power l = l.exponent
