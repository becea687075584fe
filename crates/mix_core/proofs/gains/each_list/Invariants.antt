use Rattle.std.proofs.Common.{◌≡◌, map, Global, Vec}
use Rattle.toml.specs.View.{items_view}
use Rattle.clip_core.specs.declared.gain.Point.{Point}
use Rattle.project_core.specs.declared.key.Key.TheVariants as keys
use Rattle.project_core.specs.Tables.{list_of}
use Rattle.project_core.proofs.Each.{values_left}
use Rattle.mix_core.specs.ReadingGains.{each_list, points_of}
use Rattle.mix_core.proofs.gains.each_list.Given as goal

abbrev pub invariant-loop-value : goal.invariant-loop-value
invariant-loop-value l = values_left (λ _. points_of keys.Gains l.clip) (map (λ (points : Vec Point Global). points.items) l.lists.items) l.value-index l.values ≡ each_list l.clip (list_of (items_view l.values))
