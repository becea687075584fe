use Rattle.std.proofs.Common.{◌≡◌, ◌-◌, drop}
use Rattle.std.specs.List.{list_all}
use Rattle.toml.specs.View.{items_view}
use Rattle.project_core.specs.Tables.{list_of}
use Rattle.mix_core.specs.ReadingGains.{are_integers}
use Rattle.mix_core.proofs.gains.+are_integers.Given as goal

abbrev pub decreases-are_integers : goal.decreases-are_integers
decreases-are_integers l = l.depth

abbrev pub invariant-loop-value : goal.invariant-loop-value
invariant-loop-value l = list_all (are_integers (l.depth - 1)) (list_of (items_view (drop l.value-index l.value-items))) ≡ list_all (are_integers (l.depth - 1)) (list_of (items_view l.value-items))
