use Rattle.std.proofs.Common.{◌*◌, ◌^◌}
use Rattle.heard_core.specs.Levels.{strength}
use Rattle.heard_core.proofs.BoundLaws.{order_told}
use Rattle.heard_core.proofs.decibels.told_by_bounds.Goals as goal

pub returns : goal.returns
returns c =
    order_told c.bounds_of.result c.bounds_of-2.result (strength c.args.x * 10 ^ c.args.tens) (strength c.args.y * 10 ^ c.args.more_tens) c.is_at_most_by.result c.bounds_of.ensures c.bounds_of-2.ensures c.is_at_most_by.ensures
