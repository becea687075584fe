use Rattle.std.proofs.Common.{◌≡◌, ◌≤◌, ◌*◌, flat_map, length}
use Rattle.std.specs.List.{All, range_with_len}
use Rattle.cut_core.specs.Bridges.{IsPlace, places_after}
use Rattle.cut_core.proofs.bridges.bridge_places.Given as goal

abbrev pub invariant-loop-cue : goal.invariant-loop-cue
invariant-loop-cue l = record {
  places : l.places.items ≡ flat_map (places_after l.cut) (range_with_len 0 l.cue);
  each : All (IsPlace l.cut) l.places.items;
  few : length l.places.items ≤ l.cue * 6;
}
