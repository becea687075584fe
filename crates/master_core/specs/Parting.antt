-- Parts of a master's channels.
use Rattle.std.specs.Prelude.{◌≡◌, ℕ, ◌+◌, ◌-◌, Bool, List, ◌++◌, All, length, map, slice_range}
use Rattle.dsd_bits.specs.declared.stretches.BitRange.{BitRange}
use Rattle.cut_core.specs.Bridges.{bridges}
use Rattle.cut_core.specs.Cuts.{CutContent, cue_at, cue_bits, master_length}
use Rattle.cut_core.specs.declared.bridges.BridgePlace.{BridgePlace}
use Rattle.master_core.specs.Choosing.{AreChosen}
use Rattle.cut_core.specs.Claims.{bridge_start}
use Rattle.master_core.specs.Best.{AreBestChannels, IsBestChannel, IsFirstLeastPart}
use Rattle.cut_core.specs.Masters.{part_at}
use Rattle.master_core.specs.declared.parting.MasterSource.{MasterSource}

-- a `MasterSource` holds the bits that were chosen for all bridges of its cut
pub record HasChosen (s : MasterSource) : Type 0 where
  pub places : s.places.now ≡ bridges s.cut.now
  pub chosen : AreChosen s.cut.now s.chosen.now

-- the bits of a list in a range
abbrev pub within : BitRange → List Bool → List Bool
within range z = slice_range z range.start range.stop

-- the bits are the first least ones for the bridge at a place
abbrev pub IsBestAt : CutContent → BridgePlace → List Bool → Type 0
IsBestAt cut p bits = IsFirstLeastPart (part_at cut p.channel p.cue) bits

-- the part in a range of some bits that P holds of was added
pub record IsPartAdded (P : List Bool → Type 0) (range : BitRange) (before after : List Bool) : Type 0 where
  pub bits : List Bool
  pub given : P bits
  pub added : after ≡ before ++ within range bits

-- a range counted from a place
abbrev pub counted_from : BitRange → ℕ → BitRange
counted_from range at = record { start = range.start - at; stop = range.stop - at }

-- the parts in a range of the best bridge at a place, and of the cue after it, were added
pub record IsStepAdded (cut : CutContent) (p : BridgePlace) (range : BitRange) (before after : List Bool) : Type 0 where
  pub bits : List Bool
  pub best : IsFirstLeastPart (part_at cut p.channel p.cue) bits
  pub long : length bits ≡ (cue_at cut p.cue).bridge
  pub added : after ≡ (before ++ within (counted_from range (bridge_start cut p.cue)) bits) ++ within (counted_from range (bridge_start cut p.cue + (cue_at cut p.cue).bridge)) (cue_bits cut p.channel (p.cue + 1))

-- the bits are the part in a range of channel c of the best master
pub record IsBestPart (cut : CutContent) (c : ℕ) (range : BitRange) (part : List Bool) : Type 0 where
  pub whole : List Bool
  pub best : IsBestChannel cut c whole
  pub long : length whole ≡ master_length cut.splice.cues
  pub part_is : part ≡ within range whole

-- each list of bits is the part in a range of a channel of the best master
pub record AreBestParts (cut : CutContent) (range : BitRange) (parts : List (List Bool)) : Type 0 where
  pub wholes : List (List Bool)
  pub best : AreBestChannels cut wholes
  pub long : All (λ z. length z ≡ master_length cut.splice.cues) wholes
  pub parts_are : parts ≡ map (within range) wholes
