-- The bridges of a cut, in the order in which they are searched, certified, checked and added up.
use Rattle.std.specs.Prelude.{ℕ, ◌+◌, ◌-◌, ◌==◌, ◌<◌, ◌≤◌, if◌then◌else◌, List, [], length, map}
use Rattle.std.specs.List.{flat_map, range_with_len}
use Rattle.cut_core.specs.Cuts.{CutContent, cue_at, take_channels}
use Rattle.cut_core.specs.declared.bridges.BridgePlace.{BridgePlace}

-- there is a bridge at the place
pub record IsPlace (cut : CutContent) (p : BridgePlace) : Type 0 where
  pub cue_there : p.cue + 1 < length cut.splice.cues
  pub channel_there : p.channel < take_channels cut
  pub bridged : 1 ≤ (cue_at cut p.cue).bridge

-- the places of the bridge after cue i, by rising channel; a plain cut has none
abbrev pub places_after : CutContent → ℕ → List BridgePlace
places_after cut i = if (cue_at cut i).bridge == 0 then [] else map (λ c. record { cue = i; channel = c }) (range_with_len 0 (take_channels cut))

-- the places of all bridges, by rising cue and then by rising channel
abbrev pub bridges : CutContent → List BridgePlace
bridges cut = flat_map (places_after cut) (range_with_len 0 (length cut.splice.cues - 1))
