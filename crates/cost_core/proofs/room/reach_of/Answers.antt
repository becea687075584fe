use Rattle.std.proofs.Common.{refl}
use Rattle.cost_core.proofs.room.reach_of.Goals as goal

pub returns-in-Line-clause-before : goal.returns-in-Line-clause-before
returns-in-Line-clause-before c = rw c.in-Line.is refl

pub returns-in-Line-clause-after : goal.returns-in-Line-clause-after
returns-in-Line-clause-after c = rw c.in-Line.is refl
