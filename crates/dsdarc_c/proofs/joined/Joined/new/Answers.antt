use Rattle.std.proofs.Common.{arith, refl, []}
use Rattle.dsdarc_c.proofs.joined.Joined.new.Goals as goal

pub returns-clause-keeps : goal.returns-clause-keeps
returns-clause-keeps c = record { bare = c.new.ensures.keeps; layout = c.new.ensures.layout; pulled = omega arith; stage = tt; shape = tt; few = omega arith }

pub returns-clause-plays : goal.returns-clause-plays
returns-clause-plays c way file = record { bits = []; plays = c.new.ensures.plays file; stage = (refl, c.new-2.ensures.items) }
