use Rattle.heard_core.proofs.sums.add_piece.Goals as goal

pub returns-clause-len : goal.returns-clause-len
returns-clause-len c = c.add_all.ensures.len
