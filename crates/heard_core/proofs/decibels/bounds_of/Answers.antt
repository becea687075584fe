use Rattle.std.proofs.Common.{◌^◌}
use Rattle.heard_core.specs.Levels.{strength}
use Rattle.heard_core.proofs.decibels.bounds_of.Goals as goal

pub returns : goal.returns
unfolding strength
returns c = c.times.ensures (c.args.x ^ 2000) (10 ^ c.args.tens) c.power.ensures c.power-2.ensures
