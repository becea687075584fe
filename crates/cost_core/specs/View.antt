-- What a `Window` means.
use Rattle.std.specs.Prelude.{◌≡◌, ◌+◌, ◌^◌, map, length}
use Rattle.std.specs.List.{range_with_len}
use Rattle.cost_core.specs.declared.window.Window.TheInside.{Inside}
use Rattle.cost_core.specs.Trellis.{state_after}
use Rattle.cost_core.specs.Bridges.{Bridging}
use Rattle.cost_core.specs.StateCosts.{scaled}
use Rattle.cost_core.specs.Limits.{IsBridging}

-- the bridge of the fields
abbrev pub bridging_of : Inside → Bridging
bridging_of w = record {
  weights = w.weights.items;
  levels = w.levels;
  preceding = w.preceding;
  following = w.following;
  targets = w.targets.items;
}

-- the limits, and what was counted beforehand: the start and the table of scaled sums
pub record IsWindow (w : Inside) : Type 0 where
  pub limits : IsBridging (bridging_of w)
  pub as_many_targets : length w.targets.items ≡ w.levels + length w.following
  pub start_is : w.start ≡ state_after (length w.preceding) 0 w.preceding
  pub table_is : w.scaled.items ≡ map (scaled (bridging_of w)) (range_with_len 0 (2 ^ length w.weights.items))
