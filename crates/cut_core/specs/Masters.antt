-- A master: the cues and the bridges between them, channel by channel, what they cost, and which recordings are one.
use Rattle.std.specs.Prelude.{◌≡◌, ℕ, ◌+◌, ◌-◌, ◌≤◌, Bool, List, [], All, length, map, slice_index_or}
use Rattle.std.specs.List.{AllZip, range_with_len, sum_by}
use Rattle.dsd_bits.specs.Channels.{count_of}
use Rattle.dsd_bits.specs.Contents.{Content}
use Rattle.form_core.specs.declared.form.Form.{Form}
use Rattle.form_core.specs.declared.form.Form.TheVariants.{Dsdiff}
use Rattle.cost_core.specs.Bridges.{IsLeastBridge}
use Rattle.cost_core.specs.Channels.{HaveLengths, Part, channel, channel_cost}
use Rattle.cut_core.specs.Claims.{bridge_bits}
use Rattle.cut_core.specs.Cuts.{AreAlike, CutContent, cue_bits, master_length, take_channels, window}
use Rattle.cut_core.specs.Titles.{titles_of}

-- the bridge after cue i in channel c, and the next cue
abbrev pub part_at : CutContent → ℕ → ℕ → Part
part_at cut c i = record { bridging = window cut c i; cue = cue_bits cut c (i + 1) }

-- what follows the first cue in channel c
abbrev pub parts_of : CutContent → ℕ → List Part
parts_of cut c = map (part_at cut c) (range_with_len 0 (length cut.splice.cues - 1))

-- channel c of the master: cue 0, bridge 0, cue 1, bridge 1 and so on, with these bits for the bridges
abbrev pub master_channel : CutContent → ℕ → List (List Bool) → List Bool
master_channel cut c bridges = channel (cue_bits cut c 0) (parts_of cut c) bridges

-- the bits are channel c of a master: the cues with some bits of the stated lengths for the bridges
pub record IsMasterChannel (cut : CutContent) (c : ℕ) (z : List Bool) : Type 0 where
  pub bridges : List (List Bool)
  pub lengths : HaveLengths (parts_of cut c) bridges
  pub made : z ≡ master_channel cut c bridges

-- no bits of a bridge's length cost less
abbrev pub IsLeastPart : Part → List Bool → Type 0
IsLeastPart p x = IsLeastBridge p.bridging x

-- the cues with least bits for each bridge
pub record IsLeastChannel (cut : CutContent) (c : ℕ) (z : List Bool) : Type 0 where
  pub bridges : List (List Bool)
  pub least : AllZip IsLeastPart (parts_of cut c) bridges
  pub made : z ≡ master_channel cut c bridges

-- the numbers of the channels
abbrev pub channel_numbers : CutContent → List ℕ
channel_numbers cut = range_with_len 0 (take_channels cut)

-- there are as many channels as the takes have, and each is the cues and some bridges
abbrev pub AreMasterChannels : CutContent → List (List Bool) → Type 0
AreMasterChannels cut zs = AllZip (IsMasterChannel cut) (channel_numbers cut) zs

-- there are as many channels as the takes have, and each is the cues with least bits for each bridge
abbrev pub AreLeastChannels : CutContent → List (List Bool) → Type 0
AreLeastChannels cut zs = AllZip (IsLeastChannel cut) (channel_numbers cut) zs

-- what channel c of a master costs, over all its places
abbrev pub cost_of : CutContent → ℕ → List Bool → ℕ
cost_of cut c z = channel_cost z (length (cue_bits cut c 0)) (parts_of cut c)

-- the total cost of a master's channels
abbrev pub total_cost : CutContent → List (List Bool) → ℕ
total_cost cut zs = sum_by (λ c. cost_of cut c (slice_index_or zs c [])) (channel_numbers cut)

-- no master of a cut costs less than these channels, read whole, and this is what they cost
pub record CostLeast (cut : CutContent) (zs : List (List Bool)) (cost : ℕ) : Type 0 where
  pub own : cost ≡ total_cost cut zs
  pub least : (others : List (List Bool)) → AreMasterChannels cut others → cost ≤ total_cost cut others

-- there are as many channels as a master has, and each is as long
pub record HaveShape (cut : CutContent) (zs : List (List Bool)) : Type 0 where
  pub as_many : length zs ≡ take_channels cut
  pub long : All (λ z. length z ≡ master_length cut.splice.cues) zs

-- a DSDIFF master has the marks of the titles
abbrev pub IsTitled : CutContent → Form → Content → Type 0
IsTitled cut form r = form ≡ Dsdiff → r.marks ≡ titles_of cut

-- a channel rebuilt from the cues, and from its own bits between them
abbrev pub rebuilt : CutContent → ℕ → List Bool → List Bool
rebuilt cut c z = master_channel cut c (map (bridge_bits cut z) (range_with_len 0 (length cut.splice.cues - 1)))

-- the channels of these numbers hold the cues where they belong
abbrev pub HoldCues : CutContent → List ℕ → List (List Bool) → Type 0
HoldCues cut cs zs = AllZip (λ c z. z ≡ rebuilt cut c z) cs zs

-- a recording is the master of a cut, whatever its bridges
pub record IsMasterOf (cut : CutContent) (form : Form) (r : Content) : Type 0 where
  pub shape : AreAlike cut.first r
  pub long : count_of r.channels ≡ master_length cut.splice.cues
  pub titled : IsTitled cut form r
  pub cued : HoldCues cut (channel_numbers cut) r.channels
