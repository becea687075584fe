use Rattle.dsd_bits.proofs.room_lacing.push_held_block.Goals as goal

pub returns-clause-block : goal.returns-clause-block
returns-clause-block c = c.in-Ok.ensures.ok
