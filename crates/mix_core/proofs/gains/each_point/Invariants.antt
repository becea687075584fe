use Rattle.std.proofs.Common.{◌≡◌}
use Rattle.toml.specs.View.{items_view}
use Rattle.project_core.specs.Tables.{list_of}
use Rattle.project_core.proofs.Each.{values_left}
use Rattle.mix_core.specs.ReadingGains.{each_point, point_of}
use Rattle.mix_core.proofs.gains.each_point.Given as goal

abbrev pub invariant-loop-value : goal.invariant-loop-value
invariant-loop-value l = values_left (λ _. point_of l.key l.clip) l.points.items l.value-index l.values ≡ each_point l.key l.clip (list_of (items_view l.values))
