use Rattle.std.proofs.Common.{refl}
use Rattle.heard_core.specs.Levels.{limit}
use Rattle.heard_core.proofs.decibels.below_all.Goals as goal

pub returns : goal.returns
unfolding limit
returns c = refl
