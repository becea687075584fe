use Rattle.std.proofs.Common.{◌*◌, ◌^◌, ap}
use Rattle.heard_core.specs.Levels.{strength}
use Rattle.heard_core.specs.Naturals.{natural}
use Rattle.heard_core.proofs.LevelLaws.{from_one}
use Rattle.heard_core.proofs.decibels.scaled_strength.Goals as goal

pub returns : goal.returns
returns c = from_one (natural c.in_ok-made.made.items) _ (strength c.args.x * 10 ^ c.args.tens) (ap natural c.in_ok-made.ensures.items) c.in_ok-scale.ensures
