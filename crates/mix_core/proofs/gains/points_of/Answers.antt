use Rattle.mix_core.proofs.GainLaws.{each_point_ok}
use Rattle.mix_core.proofs.gains.points_of.Goals as goal

pub are_within-requires : goal.are_within-requires
are_within-requires c = rw c.deref-2.ensures.value (each_point_ok _ _ _ c.in_ok-points.points.items c.in_ok-points.ensures).1
