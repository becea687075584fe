use Rattle.trellis_core.proofs.ends.+end_state.Given as goal

abbrev pub decreases-end_state : goal.decreases-end_state
decreases-end_state l = l.rest
